-- Demand 2, from what the crates of frames, lists, Basic Periods and ports prove.
-- Assumes nothing.
use mathlib.Core.Path.{◌≡◌, refl, sym, ap, ◌∙◌}
use mathlib.Core.Bool.{true, false}
use mathlib.Core.List.{List, [], ◌∷◌, ◌++◌}
use Prim.Native.Nat.{ℕ, ◌≤◌, ◌<◌}
use native.Mathlib.Omega.{arith}
use lib.Dec.{ltb, leb}
use lib.ListN.{length, drop}
use borrow.Author.Tests.{lt-ltb, le-ltb, le-leb}
use Rattle.refusals.specs.Told.{gives, refusal}
use Rattle.frames.specs.Words.{f_code_of}
use Rattle.rows.specs.Rows.{reserved, data_bytes, frame_bytes}
use Rattle.frames.specs.Master.{master_frame, master_write, master_write_out}
use Rattle.frames.specs.Slave.{slave_frame, slave_write, slave_write_out}
use Rattle.frames.proofs.Order.{write_done}
use Rattle.frames.proofs.RoundTrip as trip
use Rattle.frames.proofs.Distance.{accepted_apart}
use Rattle.numbers.specs.Written.{Bytes}
use Rattle.lists.specs.Values.{PeriodicList, periods_of}
use Rattle.lists.specs.Reading.{Read, denied, took}
use Rattle.lists.specs.Sends.{sends}
use Rattle.lists.specs.Accepts.{accepted}
use Rattle.lists.specs.Answers.{told_read}
use Rattle.list_laws.proofs.Acceptance.{accepted_obeys, accepted_exactly, one_list}
use Rattle.list_laws.proofs.OrderLaws as order
use Rattle.periods.specs.Period.{period_by}
use Rattle.periods.proofs.OnceLaws as once
use Rattle.ports.proofs.OwnPortOnly as own
use Rattle.ports.proofs.ThroughTheBus as bus
use Rattle.demands.proofs.SomeFile.{some_file}
use Rattle.demands.specs.Demand2.{Frames, header, IsFile, Lists, Demand2}

-- ---- frames

master_written : (word : ℕ) (out : List ℕ) → reserved (f_code_of word) ≡ false → 3 ≤ length out
    → (master_write word (length out) ≡ gives (3 ∷ [])) × (master_write_out word out ≡ master_frame word ++ drop 3 out)
unfolding master_write master_write_out
master_written word out a r = let t : ltb (length out) 3 ≡ false = le-ltb (length out) 3 r in (simp (a, t), simp (a, t))

slave_written : (f : ℕ) (d out : List ℕ) → reserved f ≡ false → length d ≡ data_bytes f → frame_bytes f ≤ length out
    → (slave_write f d (length out) ≡ gives (frame_bytes f ∷ [])) × (slave_write_out f d out ≡ slave_frame f d ++ drop (frame_bytes f) out)
unfolding slave_write slave_write_out
slave_written f d out a e r =
    (sym (write_done f d (length out) refusal (gives (frame_bytes f ∷ [])) a e r), sym (write_done f d (length out) (λ k. out) (slave_frame f d ++ drop (frame_bytes f) out) a e r))

frames : Frames
frames = record {
  master_written = master_written;
  slave_written = slave_written;
  master_back = trip.master_written_is_read;
  slave_back = trip.slave_written_is_read;
  master_again = trip.master_accepted_is_written;
  slave_again = trip.slave_accepted_is_written;
  apart = accepted_apart;
}

-- ---- lists

is_accepted : (s : List ℕ) (l : PeriodicList) → IsFile s l → accepted s ≡ took l []
is_accepted s l f = (accepted_exactly s l f.bytes).1 (f.obeys, f.written)

only_if : (s v : List ℕ) → Bytes s → told_read (accepted s) ≡ gives v → (l : PeriodicList) × IsFile s l × (v ≡ header l) × ((m : PeriodicList) → IsFile s m → m ≡ l)
only_if s v b e = go (accepted s) refl e
  where
    go : (x : Read PeriodicList) → accepted s ≡ x → told_read x ≡ gives v → (l : PeriodicList) × IsFile s l × (v ≡ header l) × ((m : PeriodicList) → IsFile s m → m ≡ l)
    go (denied n) q e = let z : ◌≡◌ {A = ℕ} 0 1 = cc in absurd (omega arith)
    go (took l rest) q e =
        let o = accepted_obeys s l rest b q in
        let h : v ≡ header l = cc in
        (l, record { bytes = b; obeys = o.0; written = o.1 }, h, λ m f. one_list m l f.obeys o.0 (f.written ∙ sym o.1))

handed_out : (s : List ℕ) (l : PeriodicList) → IsFile s l → (j : ℕ) → j < periods_of l.head.ms → (out : List ℕ) → 64 ≤ length out
    → (period_by s j (length out) refusal (λ ws. gives (length ws ∷ [])) ≡ gives (length (sends l j) ∷ []))
    × (period_by s j (length out) (λ n. out) (λ ws. ws ++ drop (length ws) out) ≡ sends l j ++ drop (length (sends l j)) out)
unfolding period_by
handed_out s l f j h out room =
    let e : accepted s ≡ took l [] = is_accepted s l f in
    let p : ltb j (periods_of l.head.ms) ≡ true = lt-ltb j (periods_of l.head.ms) h in
    let q : leb (length (sends l j)) (length out) ≡ true = le-leb (length (sends l j)) (length out) (omega (arith, f.obeys.frames j h)) in
    (rw (e, p, q) refl, rw (e, p, q) refl)

lists : Lists
lists = record {
  accepted_if = λ s l f. ap told_read (is_accepted s l f);
  only_if = only_if;
  some_file = some_file;
  too_long = order.too_long_first;
  first_fault = order.first_fault;
  each_once = λ s l f n h w p a. once.each_once s l [] f.bytes (is_accepted s l f) n h w p a;
  nothing_else = once.nothing_else;
  fits = λ s l f j h. once.period_fits s l [] f.bytes (is_accepted s l f) j h;
  handed_out = handed_out;
}

pub demand_2 : Demand2
demand_2 = record {
  frames = frames;
  lists = lists;
  ports = λ ps store ages word frame. record {
    other_bytes = own.other_bytes ps store ages word frame;
    other_ages = own.other_ages ps store ages word frame;
    other_ports = own.other_ports ps store ages word frame;
    as_long = (own.store_length ps store ages word frame, own.ages_length ps store ages word frame);
    own_data = own.own_data ps store ages word frame;
    own_age = own.own_age ps store ages word frame;
  };
  through_the_bus = λ ps store word d out n filled sent qs store' ages' sink. record {
    taken = bus.taken ps store word d out n filled sent qs store' ages' sink;
    data_read = bus.same_data ps store word d out n filled sent qs store' ages' sink;
  };
}
