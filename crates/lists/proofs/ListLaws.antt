-- The whole list: what the loads say of the Basic Periods, and the ways out of a check.
-- Assumes nothing.
use Prim.Native.Nat.{ℕ, zero, suc, ◌+◌, ◌-◌, ◌*◌, ◌^◌, ◌%◌, ◌≤◌, ◌<◌}
use mathlib.Core.Path.{◌≡◌, refl, ap, sym, ◌∙◌, subst}
use mathlib.Core.List.{List, [], ◌∷◌, ◌++◌}
use mathlib.Core.Bool.{Bool, true, false}
use native.Mathlib.Omega.{arith}
use borrow.Author.Tests.{lt-ltb, le-ltb, ltb-true, ltb-false, le-leb, lt-leb}
use lib.Dec.{ltb, eqb}
use lib.ListN.{length, get_or, take, drop, drop_of_length-le}
use lib.Seq.{drop-cons}
use Rattle.refusals.specs.Told.{gives, refusal}
use Rattle.lists.specs.declared.Header.{Header}
use Rattle.lists.specs.Values.{Cycle, PeriodicList, cycles_of, periods_of, by_ms, words_of}
use Rattle.frames.specs.Words.{f_code_of}
use Rattle.lists.specs.Rules.{rules}
use Rattle.lists.specs.Reading.{Read, denied, took, then, within, after_ms, header_in, cycles_in, list_in}
use Rattle.lists.specs.Sends.{cut_by, subcycles, subcycle, sent_from, sends, takes, some, overfull, crowded}
use Rattle.lists.specs.Accepts.{none, ending, ended, accepted}
use Rattle.lists.specs.Answers.{told_read}
use Rattle.lists.specs.Inside.{GoodHead}
use Rattle.lists.specs.Marks.{AllListable}
use Rattle.lists.specs.Weights.{weigh, WeightsOf}
use Rattle.lists.specs.Loads.{AreLoads}
use Rattle.lists.proofs.HeadLaws.{in_range}
use Rattle.lists.proofs.LoadLaws.{some_none, some_false}
use Rattle.lists.proofs.TelegramLaws.{telegram_range}
use Rattle.lists.proofs.ThenLaws.{then_yes, yes_value}

-- ---- the listed words of a Basic Period are listable
all_append : (a b : List ℕ) → AllListable a → AllListable b → AllListable (a ++ b)
all_append [] b h k = k
all_append (w ∷ a) b h k = (h.0, all_append a b h.1 k)

all_left : (a b : List ℕ) → AllListable (a ++ b) → AllListable a
all_left [] b h = tt
all_left (w ∷ a) b h = (h.0, all_left a b h.1)

all_of_right : (a b : List ℕ) → AllListable (a ++ b) → AllListable b
all_of_right [] b h = h
all_of_right (w ∷ a) b h = all_of_right a b h.1

all_take : (k : ℕ) (ws : List ℕ) → AllListable ws → AllListable (take k ws)
all_take zero ws h = tt
all_take (suc k) [] h = tt
all_take (suc k) (w ∷ ws) h = (h.0, all_take k ws h.1)

all_drop : (k : ℕ) (ws : List ℕ) → AllListable ws → AllListable (drop k ws)
all_drop zero ws h = h
all_drop (suc k) [] h = tt
all_drop (suc k) (w ∷ ws) h = all_drop k ws h.1

all_cut : (ws zs : List ℕ) (s : ℕ) → AllListable ws → AllListable (get_or (cut_by ws zs) s [])
all_cut ws [] s h = tt
all_cut ws (z ∷ zs) zero h = all_take z ws h
all_cut ws (z ∷ zs) (suc s) h = all_cut (drop z ws) zs s (all_drop z ws h)

all_sub : (ws zs : List ℕ) (s : ℕ) → AllListable ws → AllListable (get_or (subcycles ws zs) s [])
all_sub ws [] zero h = h
all_sub ws [] (suc s) h = tt
all_sub ws (z ∷ zs) s h = all_cut ws (z ∷ zs) s h

all_sent : (cs : List Cycle) (m j : ℕ) → AllListable (words_of cs) → AllListable (sent_from m j cs)
unfolding subcycle
all_sent [] m j h = tt
all_sent (c ∷ cs) m j h =
    all_append (subcycle c (j % 2 ^ m)) (sent_from (suc m) j cs) (all_sub c.words c.splits (j % 2 ^ m) (all_left c.words (words_of cs) h))
    (all_sent cs (suc m) j (all_of_right c.words (words_of cs) h))

-- ---- what words weigh is what they take
weigh_is : (gap : ℕ) (weights ws : List ℕ) → WeightsOf gap weights → AllListable ws → weigh weights ws ≡ takes gap ws
weigh_is gap weights [] w h = refl
weigh_is gap weights (v ∷ ws) w h = omega (arith, w.at (f_code_of v) h.0, weigh_is gap weights ws w h.1)

some_same : (k : ℕ) (f g : ℕ → Bool) → ((j : ℕ) → j < k → f j ≡ g j) → some k f ≡ some k g
some_same zero f g h = refl
some_same (suc k) f g h = let a : f k ≡ g k = h k (omega arith) in let b : some k f ≡ some k g = some_same k f g (λ j l. h j (omega arith)) in rw (a, b)

more_same : (most all x r : ℕ) → most + r ≡ all → ltb most x ≡ ltb all (x + r)
more_same most all x r e = go (ltb most x) refl
  where
    go : (t : Bool) → ltb most x ≡ t → ltb most x ≡ ltb all (x + r)
    go true q = q ∙ sym (lt-ltb all (x + r) (omega (arith, ltb-true most x q)))
    go false q = q ∙ sym (le-ltb all (x + r) (omega (arith, ltb-false most x q)))

pub cycles_most : (ms : ℕ) → cycles_of ms ≤ 11
cycles_most ms = go (eqb ms 1)
  where
    go : (t : Bool) → by_ms t 11 10 ≤ 11
    go true = omega arith
    go false = omega arith

-- a Macro Cycle has at most 1,024 Basic Periods
pub periods_most : (ms : ℕ) → periods_of ms ≤ 1024
periods_most ms = go (eqb ms 1)
  where
    go : (t : Bool) → by_ms t 1024 512 ≤ 1024
    go true = omega arith
    go false = omega arith

pub periods_power : (ms : ℕ) → periods_of ms ≡ 2 ^ (cycles_of ms - 1)
periods_power ms = go (eqb ms 1)
  where
    go : (t : Bool) → by_ms t 1024 512 ≡ 2 ^ (by_ms t 11 10 - 1)
    go true = refl
    go false = refl

pub load_overfull : (head : Header) (weights loads : List ℕ) (cs : List Cycle) → GoodHead head → WeightsOf head.gap weights → AllListable (words_of cs)
    → (n : ℕ) → n ≡ cycles_of head.ms → length loads ≡ 2 ^ (n - 1) → AreLoads weights cs loads
    → some (length loads) (λ (j : ℕ). ltb (1500 * head.ms - head.reserve) (get_or loads j 0)) ≡ overfull (record { head = head; cycles = cs })
unfolding overfull
load_overfull head weights loads cs g w a n e l d =
    some_same (length loads) (λ j. ltb (1500 * head.ms - head.reserve) (get_or loads j 0)) (λ j. ltb (1500 * head.ms) (takes head.gap (sent_from 0 j cs) + head.reserve))
    (λ j h. ap (λ (x : ℕ). ltb (1500 * head.ms - head.reserve) x) (d.at j h ∙ weigh_is head.gap weights (sent_from 0 j cs) w (all_sent cs 0 j a))
    ∙ more_same (1500 * head.ms - head.reserve) (1500 * head.ms) (takes head.gap (sent_from 0 j cs)) head.reserve (omega (arith, g.reserve_high)))
    ∙ ap (λ (k : ℕ). some k (λ j. ltb (1500 * head.ms) (takes head.gap (sent_from 0 j cs) + head.reserve)))
    (l ∙ ap (λ (k : ℕ). 2 ^ (k - 1)) e ∙ sym (periods_power head.ms))

-- ---- what passes 10 passes 19
takes_least : (gap : ℕ) (ws : List ℕ) → 4 ≤ gap → AllListable ws → 70 * length ws ≤ takes gap ws
takes_least gap [] g h = omega arith
takes_least gap (v ∷ ws) g h = omega (arith, (telegram_range gap (f_code_of v) h.0).0, takes_least gap ws g h.1)

module _ (l : PeriodicList) (g : GoodHead l.head) (a : AllListable (words_of l.cycles)) (o : overfull l ≡ false) where
  -- words of at least 70 bit times, in at most 3,000 with a reserve of at least 71
  at_most_41 : (j : ℕ) → j < periods_of l.head.ms → length (sends l j) ≤ 41
  unfolding overfull
  at_most_41 j h =
      let fits : takes l.head.gap (sends l j) + l.head.reserve ≤ 1500 * l.head.ms =
      ltb-false _ _ (some_false (periods_of l.head.ms) (λ (j : ℕ). ltb (1500 * l.head.ms) (takes l.head.gap (sends l j) + l.head.reserve)) o j h) in
      omega (arith, takes_least l.head.gap (sends l j) g.gap_low (all_sent l.cycles 0 j a), g.gap_low, g.reserve_low, g.ms_high)

  pub never_crowded : crowded l ≡ false
  unfolding crowded
  never_crowded = some_none (periods_of l.head.ms) (λ (j : ℕ). ltb 64 (length (sends l j))) (λ j h. le-ltb 64 (length (sends l j)) (omega (arith, at_most_41 j h)))

-- ---- after the last cycle
pub bytes_after : (s : List ℕ) (end : ℕ) → end < length s → none (drop end s) ≡ false
bytes_after s end h = rw (drop-cons s end 0 h)

pub none_after : (s : List ℕ) (end : ℕ) → length s ≤ end → none (drop end s) ≡ true
none_after s end h = ap none (drop_of_length-le s h)

-- ---- the file
-- the header is read from the start
pub from_start : (s list : List ℕ) (at : ℕ) (r : Read Header) → at ≡ 0 → s ≡ list → header_in (drop at s) ≡ r → header_in list ≡ r
from_start s list at r e same h = sym (ap (λ (k : ℕ). header_in (drop k s)) e ∙ ap header_in same) ∙ h

module _ (s : List ℕ) where
  pub too_long : 16384 < length s → refusal 1 ≡ told_read (accepted s)
  unfolding accepted
  too_long h = rw (lt-leb (length s) 16384 h)

  module _ (short : length s ≤ 16384) where
    pub no_header : (n : ℕ) → header_in s ≡ denied n → refusal n ≡ told_read (accepted s)
    unfolding accepted list_in
    no_header n h = rw (le-leb (length s) 16384 short, h)

    module _ (head : Header) (after : List ℕ) (h : header_in s ≡ took head after) where
      pub no_cycles : (n : ℕ) → cycles_in rules (cycles_of head.ms) 0 [] after ≡ denied n → refusal n ≡ told_read (accepted s)
      unfolding accepted list_in
      no_cycles n c = rw (le-leb (length s) 16384 short, h, c)

      module _ (cs : List Cycle) (end : List ℕ) (c : cycles_in rules (cycles_of head.ms) 0 [] after ≡ took cs end) where
        pub accepted_rest : none end ≡ false → refusal 11 ≡ told_read (accepted s)
        unfolding accepted list_in ended ending
        accepted_rest n = rw (le-leb (length s) 16384 short, h, c, n)

        pub accepted_overfull : none end ≡ true → overfull (record { head = head; cycles = cs }) ≡ true → refusal 10 ≡ told_read (accepted s)
        unfolding accepted list_in ended ending
        accepted_overfull n o = rw (le-leb (length s) 16384 short, h, c, n, o)

        pub accepted_all : none end ≡ true → overfull (record { head = head; cycles = cs }) ≡ false → crowded (record { head = head; cycles = cs }) ≡ false
            → (words : ℕ) → words ≡ length (words_of cs) → gives (head.ms ∷ head.gap ∷ head.reserve ∷ words ∷ []) ≡ told_read (accepted s)
        unfolding accepted list_in ended ending
        accepted_all n o q words e = rw (le-leb (length s) 16384 short, h, c, n, o, q, e)

pub good_head : (s : List ℕ) (h : Header) (rest : List ℕ) → header_in s ≡ took h rest → GoodHead h
unfolding header_in after_ms
good_head s h rest e =
    let a = then_yes (within 1 1 s) (λ one r. then (within 1 2 r) (λ ms end. after_ms ms end)) h rest e in
    let b = then_yes (within 1 2 a.1) (λ ms end. after_ms ms end) h rest a.3 in
    let c = then_yes (within 4 128 b.1) (λ gap r. then (within (67 + gap) (1500 * b.0) r) (λ reserve end. took (record { ms = b.0; gap = gap; reserve = reserve }) end)) h rest b.3 in
    let d = then_yes (within (67 + c.0) (1500 * b.0) c.1) (λ reserve end. took (record { ms = b.0; gap = c.0; reserve = reserve }) end) h rest c.3 in
    let q : record { ms = b.0; gap = c.0; reserve = d.0 } ≡ h = yes_value (record { ms = b.0; gap = c.0; reserve = d.0 }) h d.1 rest d.3 in
    let rm = in_range 1 2 a.1 b.0 b.1 b.2 in
    let rg = in_range 4 128 b.1 c.0 c.1 c.2 in
    let rr = in_range (67 + c.0) (1500 * b.0) c.1 d.0 d.1 d.2 in
    subst GoodHead {x = record { ms = b.0; gap = c.0; reserve = d.0 }} q (record { ms_low = rm.1; ms_high = rm.2; gap_low = rg.1; gap_high = rg.2; reserve_low = rr.1; reserve_high = rr.2 })
