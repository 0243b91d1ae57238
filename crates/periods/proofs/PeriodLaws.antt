-- The loop of `period_words` over the cycles of a list that is written so; and the ways out of asking for a Basic Period.
-- Assumes nothing.
use Prim.Native.Nat.{ℕ, suc, ◌+◌, ◌-◌, ◌^◌, ◌%◌, ◌≤◌, ◌<◌}
use mathlib.Core.Path.{◌≡◌, refl, ap, sym, ◌∙◌, subst}
use mathlib.Core.List.{List, [], ◌∷◌, ◌++◌, append_assoc, append-nil}
use mathlib.Core.Bool.{true, false}
use native.Mathlib.Nat.{mod-lt}
use native.Mathlib.Omega.{arith}
use borrow.Author.Tests.{lt-ltb, le-ltb, le-leb, lt-leb}
use lib.Dec.{ltb, leb}
use lib.ListN.{length, get_or, take, drop, length-append, length-drop, drop_of_length-le}
use borrow.Rule.Slice.PartMut.{put_mid, same_len_mid}
use lib.Pow.{pow_pos}
use lib.Seq.{take_all, take_at, drop-append_seam, drop-drop}
use Rattle.refusals.specs.declared.Refusal.{Refusal}
use Rattle.refusals.specs.Refusals.{number_of}
use Rattle.refusals.specs.Told.{Told, gives, refusing, refusal}
use Rattle.numbers.specs.Written.{written, Bytes, Most}
use Rattle.numbers.proofs.RunLaws.{Added}
use Rattle.numbers.proofs.WrittenLaws.{written_append}
use Rattle.numbers.proofs.ThereLaws.{sum_there}
use Rattle.lists.specs.declared.Accepted.{Accepted}
use Rattle.lists.specs.Values.{Cycle, PeriodicList, cycles_of, periods_of}
use Rattle.lists.specs.Reading.{Read, denied, took}
use Rattle.lists.specs.Sends.{subcycle, sent_from, sends}
use Rattle.lists.specs.Accepts.{accepted}
use Rattle.lists.specs.Answers.{header_and_words, told_read}
use Rattle.list_laws.specs.Written.{cycles_numbers, Obeys}
use Rattle.lists.proofs.SentLaws.{sent_snoc}
use Rattle.list_laws.proofs.Acceptance.{accepted_obeys, obeys_accepted}
use Rattle.periods.proofs.WalkLaws.{Walk, walk_start, walk_more, all_done, size_small, next, cycle_here}
use Rattle.periods.specs.Period.{period_by}
use Rattle.periods.specs.Inside.{SubFits, PartSent, IsList, PeriodWords}

pub sent_append : (cs ds : List Cycle) (m j : ℕ) → sent_from m j (cs ++ ds) ≡ sent_from m j cs ++ sent_from (m + length cs) j ds
sent_append [] ds m j = let e : m ≡ m + 0 = omega arith in ap (λ (k : ℕ). sent_from k j ds) e
sent_append (c ∷ cs) ds m j =
    let e : suc m + length cs ≡ m + suc (length cs) = omega arith in
    ap (λ (l : List ℕ). subcycle c (j % 2 ^ m) ++ l) (sent_append cs ds (suc m) j ∙ ap (λ (k : ℕ). sent_from (suc m) j cs ++ sent_from k j ds) e)
    ∙ sym (append_assoc (subcycle c (j % 2 ^ m)) (sent_from (suc m) j cs) (sent_from (m + suc (length cs)) j ds))

-- ---- the place after the header
header_most : (l : PeriodicList) → Obeys l → Most (1 ∷ l.head.ms ∷ l.head.gap ∷ l.head.reserve ∷ [])
header_most l o = (omega arith, (omega (arith, o.ms.1), (omega (arith, o.gap.1), (omega (arith, o.reserve.1, o.ms.1), tt))))

pub after_header_lem : (s : List ℕ) (ms : ℕ) (k : IsList s ms) (total next : ℕ) → Added s 0 4 total next → drop next s ≡ written (cycles_numbers k.l.cycles)
after_header_lem s ms k total next d =
    let l : PeriodicList = k.l in
    let four : List ℕ = 1 ∷ l.head.ms ∷ l.head.gap ∷ l.head.reserve ∷ [] in
    let w : drop 0 s ≡ written four ++ written (cycles_numbers l.cycles) = sym k.written_so ∙ written_append four (cycles_numbers l.cycles) in
    (sum_there s four (written (cycles_numbers l.cycles)) 0 (header_most l k.obeys) w 4 total next refl d).1

-- ---- the loop
pub record Inv (s : List ℕ) (ms j cycles : ℕ) (out₀ out : List ℕ) (p k n size : ℕ) : Type 0 where
  pub at : Walk s ms cycles p n size
  pub here : j < periods_of ms
  pub room : length out₀ ≡ 64
  pub long : length out ≡ 64
  pub count : k ≡ length (sent_from 0 j at.done)
  pub sent : out ≡ sent_from 0 j at.done ++ drop k out₀

module _ (s : List ℕ) (ms j cycles : ℕ) (out₀ : List ℕ) where
  pub start : (k : IsList s ms) → j < periods_of ms → length out₀ ≡ 64 → cycles ≡ cycles_of ms → (p : ℕ) → drop p s ≡ written (cycles_numbers k.l.cycles) → Inv s ms j cycles out₀ out₀ p 0 0 1
  start k h r c p b = record { at = walk_start s ms cycles k c p b; here = h; room = r; long = r; count = refl; sent = refl }

  module _ (out : List ℕ) (p k n size : ℕ) (inv : Inv s ms j cycles out₀ out p k n size) where
    l : PeriodicList
    l = inv.at.known.l

    pub end : cycles ≤ n → PeriodWords s j k out₀ out
    end h m o w =
        let f : sent_from 0 j inv.at.done ≡ sends m j = ap (sent_from 0 j) (all_done s ms cycles p n size inv.at h m o w) in
        (inv.count ∙ ap length f, inv.sent ∙ ap (λ (x : List ℕ). x ++ drop k out₀) f)

    module _ (h : n < cycles) where
      pub size_fits : size + size ≤ 2048
      size_fits = omega (arith, size_small s ms cycles p n size inv.at h)

      c : Cycle
      c = (next s ms cycles p n size inv.at h).c

      later : List Cycle
      later = (next s ms cycles p n size inv.at h).later

      all_sent : sends l j ≡ sent_from 0 j inv.at.done ++ (subcycle c (j % 2 ^ n) ++ sent_from (suc n) j later)
      unfolding l c later
      all_sent =
          let z : 0 + length inv.at.done ≡ n = omega (arith, inv.at.many) in
          ap (sent_from 0 j) (inv.at.both ∙ ap (λ (x : List Cycle). inv.at.done ++ x) (next s ms cycles p n size inv.at h).is) ∙ sent_append inv.at.done ((next s ms cycles p n size inv.at h).c ∷ (next s ms cycles p n size inv.at h).later) 0 j
          ∙ ap (λ (m : ℕ). sent_from 0 j inv.at.done ++ sent_from m j ((next s ms cycles p n size inv.at h).c ∷ (next s ms cycles p n size inv.at h).later)) z

      few_sent : length (sends l j) ≤ 64
      unfolding l
      few_sent = inv.at.known.obeys.frames j (subst (λ (x : ℕ). j < periods_of x) inv.at.known.same inv.here)

      room_left : k + length (subcycle c (j % 2 ^ n)) ≤ 64
      room_left =
          omega (
            arith,
            inv.count,
            ap length all_sent,
            few_sent,
            length-append (sent_from 0 j inv.at.done) (subcycle c (j % 2 ^ n) ++ sent_from (suc n) j later),
            length-append (subcycle c (j % 2 ^ n)) (sent_from (suc n) j later),
          )

      sub_is : subcycle c (j % size) ≡ subcycle c (j % 2 ^ n)
      sub_is = ap (λ (x : ℕ). subcycle c (j % x)) inv.at.power

      -- the places of out from k on
      rest-is : take (length out - k) (drop k out) ≡ drop k out
      rest-is = take_all (length out - k) (drop k out) (omega (arith, length-drop k out))

      pub sub-fits : SubFits (cycle_here s ms cycles p n size inv.at h).c size (j % size) (length (take (length out - k) (drop k out)))
      unfolding c
      sub-fits = (mod-lt j (omega (arith, inv.at.power, pow_pos n)), omega (arith, room_left, ap length sub_is, ap length rest-is, length-drop k out, inv.long))

      module _ (part' : List ℕ) (m to : ℕ) (g : PartSent s (cycle_here s ms cycles p n size inv.at h).c (j % size) (cycle_here s ms cycles p n size inv.at h).rest (take (length out - k) (drop k out)) part' m to) where
        sent_part : (m ≡ length (subcycle c (j % 2 ^ n))) × (drop to s ≡ written (cycles_numbers later)) × (part' ≡ subcycle c (j % 2 ^ n) ++ drop m (drop k out))
        unfolding c later
        sent_part = (
          g.0 ∙ ap length sub_is,
          g.1,
          g.2 ∙ ap (λ (x : List ℕ). x ++ drop m (take (length out - k) (drop k out))) sub_is ∙ ap (λ (x : List ℕ). subcycle c (j % 2 ^ n) ++ drop m x) rest-is,
        )

        out' : List ℕ
        out' = put_mid k (length out - k) out part'

        out_is : out' ≡ take k out ++ part'
        unfolding out'
        out_is =
            let a : length (drop k out) ≤ length out - k = omega (arith, length-drop k out) in
            let e : drop (length out - k) (drop k out) ≡ [] = drop_of_length-le (drop k out) a in
            ap (λ (x : List ℕ). take k out ++ (part' ++ x)) e ∙ ap (λ (x : List ℕ). take k out ++ x) (append-nil part')

        pub m_few : k + m ≤ 64
        m_few = omega (arith, room_left, sent_part.0)

        front : take k out ≡ sent_from 0 j inv.at.done
        front = ap (take k) inv.sent ∙ take_at (sent_from 0 j inv.at.done) (drop k out₀) k (sym inv.count)

        back : drop k out ≡ drop k out₀
        back = ap (drop k) inv.sent ∙ ap (λ (x : ℕ). drop x (sent_from 0 j inv.at.done ++ drop k out₀)) inv.count ∙ drop-append_seam (sent_from 0 j inv.at.done) (drop k out₀)

        now_sent : out' ≡ (sent_from 0 j inv.at.done ++ subcycle c (j % 2 ^ n)) ++ drop (k + m) out₀
        now_sent =
            out_is ∙ ap (λ (x : List ℕ). x ++ part') front ∙ ap (λ (x : List ℕ). sent_from 0 j inv.at.done ++ x) sent_part.2
            ∙ sym (append_assoc (sent_from 0 j inv.at.done) (subcycle c (j % 2 ^ n)) (drop m (drop k out)))
            ∙ ap (λ (x : List ℕ). (sent_from 0 j inv.at.done ++ subcycle c (j % 2 ^ n)) ++ x) (ap (drop m) back ∙ drop-drop m k out₀)

        snoc : sent_from 0 j (inv.at.done ++ c ∷ []) ≡ sent_from 0 j inv.at.done ++ subcycle c (j % 2 ^ n)
        snoc =
            let z : 0 + length inv.at.done ≡ n = omega (arith, inv.at.many) in
            sent_snoc inv.at.done c 0 j ∙ ap (λ (x : ℕ). sent_from 0 j inv.at.done ++ subcycle c (j % 2 ^ x)) z

        pub more : length part' ≡ length (take (length out - k) (drop k out)) → Inv s ms j cycles out₀ (put_mid k (length out - k) out part') to (k + m) (n + 1) (size + size)
        unfolding c later out'
        more lp =
            record {
              at = walk_more s ms cycles p n size inv.at h to sent_part.1;
              here = inv.here;
              room = inv.room;
              long = same_len_mid k (length out - k) out part' lp ∙ inv.long;
              count = omega (arith, inv.count, ap length snoc, length-append (sent_from 0 j inv.at.done) (subcycle (next s ms cycles p n size inv.at h).c (j % 2 ^ n)), sent_part.0);
              sent = now_sent ∙ ap (λ (x : List ℕ). x ++ drop (k + m) out₀) (sym snoc);
            }

-- ---- asking for a Basic Period
abbrev pub Answer : List ℕ → ℕ → List ℕ → Told → List ℕ → Type 0
Answer s j out told out' =
    (told ≡ period_by s j (length out) refusal (λ ws. gives (length ws ∷ []))) × (out' ≡ period_by s j (length out) (λ n. out) (λ ws. ws ++ drop (length ws) out))

list_is_read : (s : List ℕ) (ms : ℕ) (k : IsList s ms) → accepted s ≡ took k.l []
list_is_read s ms k = subst (λ (x : List ℕ). accepted x ≡ took k.l []) k.written_so (obeys_accepted k.l k.obeys)

module _ (s : List ℕ) (ms j : ℕ) (out : List ℕ) (k : IsList s ms) where
  pub send_12 : (periods : ℕ) → periods ≡ periods_of ms → periods ≤ j → Answer s j out (refusal 12) out
  unfolding period_by
  send_12 periods p h =
      let a : accepted s ≡ took k.l [] = list_is_read s ms k in
      let b : ltb j (periods_of k.l.head.ms) ≡ false = le-ltb j (periods_of k.l.head.ms) (omega (arith, ap periods_of k.same)) in
      (rw (a, b), rw (a, b))

  pub below : (periods : ℕ) → periods ≡ periods_of ms → j < periods → j < periods_of ms
  below periods p h = omega arith

  module _ (periods : ℕ) (p : periods ≡ periods_of ms) (h : j < periods) (m : ℕ) (sent₀ sent : List ℕ) (w : PeriodWords s j m sent₀ sent) where
    here : ltb j (periods_of k.l.head.ms) ≡ true
    here = lt-ltb j (periods_of k.l.head.ms) (omega (arith, ap periods_of k.same))

    count : m ≡ length (sends k.l j)
    count = (w k.l k.obeys k.written_so).0

    words : take m sent ≡ sends k.l j
    words = ap (take m) (w k.l k.obeys k.written_so).1 ∙ take_at (sends k.l j) (drop m sent₀) m (sym count)

    pub send_4 : length out < m → Answer s j out (refusal 4) out
    unfolding period_by
    send_4 l =
        let a : accepted s ≡ took k.l [] = list_is_read s ms k in
        let b : leb (length (sends k.l j)) (length out) ≡ false = lt-leb (length (sends k.l j)) (length out) (omega (arith, count)) in
        (rw (a, here, b), rw (a, here, b))

    pub send_yes : m ≤ length out → (out' : List ℕ) → out' ≡ take m sent ++ drop (length (take m sent)) out → Answer s j out (gives (m ∷ [])) out'
    unfolding period_by
    send_yes l out' q =
        let a : accepted s ≡ took k.l [] = list_is_read s ms k in
        let b : leb (length (sends k.l j)) (length out) ≡ true = le-leb (length (sends k.l j)) (length out) (omega (arith, count)) in
        (rw (a, here, b) (ap (λ (x : ℕ). gives (x ∷ [])) count), rw (a, here, b) (q ∙ ap (λ (x : List ℕ). x ++ drop (length x) out) words))

told_no : (r : Read PeriodicList) (m : Refusal) → refusing m ≡ told_read r → r ≡ denied (number_of m)
told_no (denied n) m e = ap denied (cc)
told_no (took l rest) m e = let z : ◌≡◌ {A = ℕ} 0 1 = cc in absurd (omega arith)

told_yes : (r : Read PeriodicList) (a : Accepted) → gives (header_and_words a) ≡ told_read r → (l : PeriodicList) × (rest : List ℕ) × (r ≡ took l rest) × (a.header.ms ≡ l.head.ms)
told_yes (denied m) a e = let z : ◌≡◌ {A = ℕ} 0 1 = cc in absurd (omega arith)
told_yes (took l rest) a e = (l, rest, refl, cc)

pub bytes_from : (s : List ℕ) → ((i : ℕ) → get_or s i 0 < 256) → Bytes s
bytes_from [] h = tt
bytes_from (b ∷ s) h = (h 0, bytes_from s (λ i. h (suc i)))

pub list_refused : (s : List ℕ) (m : Refusal) → refusing m ≡ told_read (accepted s) → (j : ℕ) (out : List ℕ) → Answer s j out (refusing m) out
unfolding period_by
list_refused s m t j out =
    let n : accepted s ≡ denied (number_of m) = told_no (accepted s) m t in
    (rw n, rw n)

pub is_list : (s : List ℕ) → Bytes s → (a : Accepted) → gives (header_and_words a) ≡ told_read (accepted s) → IsList s a.header.ms
is_list s k a t =
    let u = told_yes (accepted s) a t in
    let o = accepted_obeys s u.0 u.1 k u.2 in
    record { l = u.0; obeys = o.0; written_so = o.1; same = u.3 }
