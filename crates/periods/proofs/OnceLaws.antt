-- In an accepted list each listed word goes out in exactly one Basic Period of any run as long as its cycle, once in it; nothing else goes out; and what goes out fits.
-- Assumes nothing.
use Prim.Native.Nat.{ℕ, zero, suc, ◌+◌, ◌-◌, ◌*◌, ◌^◌, ◌%◌, ◌≤◌, ◌<◌}
use mathlib.Core.Path.{◌≡◌, refl, ap, sym, ◌∙◌, subst}
use mathlib.Core.Logic.{inl, inr, ⊎_elim}
use mathlib.Core.List.{List, [], ◌∷◌, ◌++◌}
use mathlib.Core.Bool.{Bool, true, false}
use native.Mathlib.Nat.{eq-or-lt_of_le, le_of_suc-le-suc, add-mod_right, mod-eq_of_lt}
use native.Mathlib.Omega.{arith}
use borrow.Author.Tests.{eqb-true, eqb-false}
use lib.Dec.{eqb}
use lib.ListN.{length, get_or, take, drop, length-append}
use lib.Pow.{pow_pos, mod-mod-pow}
use lib.Seq.{take-add, take_all}
use Rattle.numbers.specs.Written.{Bytes}
use Rattle.numbers.specs.Number.{sum}
use Rattle.lists.specs.Values.{Cycle, PeriodicList, cycles_of, periods_of, words_of}
use Rattle.lists.specs.Reading.{took}
use Rattle.lists.specs.Accepts.{accepted}
use Rattle.lists.specs.Sends.{cut_by, subcycles, subcycle, sent_from, sends, takes}
use Rattle.list_laws.specs.Written.{All, Listable, Clash, Split, CycleObeys, CyclesObey, Obeys}
use Rattle.lists.proofs.ListLaws.{periods_power}
use Rattle.lists.proofs.SentLaws.{words_append}
use Rattle.list_laws.proofs.Acceptance.{accepted_obeys, obey_listable}
use Rattle.checks.specs.Bits.{one}
use Rattle.periods.specs.Once.{times, sent_in, OnceIn}
use Rattle.periods.proofs.WalkLaws.{obey_right}
use Rattle.periods.proofs.PeriodLaws.{sent_append}

-- f 0 + f 1 + .. + f (k - 1)
abbrev upto : ℕ → (ℕ → ℕ) → ℕ
upto zero f = 0
upto (suc k) f = upto k f + f k

upto_same : (k : ℕ) (f g : ℕ → ℕ) → ((t : ℕ) → t < k → f t ≡ g t) → upto k f ≡ upto k g
upto_same zero f g h = refl
upto_same (suc k) f g h = omega (arith, upto_same k f g (λ t l. h t (omega arith)), h k (omega arith))

upto_first : (k : ℕ) (f : ℕ → ℕ) → upto (suc k) f ≡ f 0 + upto k (λ t. f (suc t))
upto_first zero f = omega arith
upto_first (suc k) f = omega (arith, upto_first k f)

upto_le : (k : ℕ) (f : ℕ → ℕ) (t : ℕ) → t < k → f t ≤ upto k f
upto_le zero f t l = absurd (omega arith)
upto_le (suc k) f t l =
    ⊎_elim (λ e. let q : f t ≡ f k = ap f e in omega arith) (λ q. omega (arith, upto_le k f t q)) (eq-or-lt_of_le (le_of_suc-le-suc l))

upto_two : (k : ℕ) (f : ℕ → ℕ) (t u : ℕ) → t < k → u < k → (t ≡ u → ⊥) → f t + f u ≤ upto k f
upto_two zero f t u a b h = absurd (omega arith)
upto_two (suc k) f t u a b h =
    ⊎_elim
    (λ e. let q : f t ≡ f k = ap f e in omega (arith, upto_le k f u (omega arith)))
    (λ p.
    ⊎_elim
    (λ e. let q : f u ≡ f k = ap f e in omega (arith, upto_le k f t p))
    (λ q. omega (arith, upto_two k f t u p q h))
    (eq-or-lt_of_le (le_of_suc-le-suc b)))
    (eq-or-lt_of_le (le_of_suc-le-suc a))

-- a run of k places that starts anywhere, counted round k
turn : (k a : ℕ) (h : ℕ → ℕ) → 0 < k → upto k (λ t. h ((a + t) % k)) ≡ upto k h
turn k zero h p = upto_same k (λ t. h ((0 + t) % k)) h (λ t l. let e : 0 + t ≡ t = omega arith in ap (λ (x : ℕ). h (x % k)) e ∙ ap h (mod-eq_of_lt l))
turn k (suc a) h p =
    let f : ℕ → ℕ = λ t. h ((a + t) % k) in
    let x : upto (suc k) f ≡ f 0 + upto k (λ t. f (suc t)) = upto_first k f in
    let z : h ((a + k) % k) ≡ h ((a + 0) % k) = let e : a + 0 ≡ a = omega arith in ap h (add-mod_right a k) ∙ ap (λ (y : ℕ). h (y % k)) (sym e) in
    let s : upto k (λ t. h ((suc a + t) % k)) ≡ upto k (λ t. f (suc t)) =
    upto_same k (λ t. h ((suc a + t) % k)) (λ t. f (suc t)) (λ t l. let e : suc a + t ≡ a + suc t = omega arith in ap (λ (y : ℕ). h (y % k)) e) in
    omega (arith, turn k a h p)

-- one of the places of a sum that is 1
find : (k : ℕ) (f : ℕ → ℕ) → upto k f ≡ 1 → (t : ℕ) × (t < k) × (f t ≡ 1)
find zero f e = absurd (omega arith)
find (suc k) f e = go (find k f) (eqb (f k) 1) refl
  where
    go : (upto k f ≡ 1 → (t : ℕ) × (t < k) × (f t ≡ 1)) → (b : Bool) → eqb (f k) 1 ≡ b → (t : ℕ) × (t < suc k) × (f t ≡ 1)
    go before true q = (k, omega arith, eqb-true (f k) 1 q)
    go before false q =
        let n : (f k ≡ 1 → ⊥) = eqb-false (f k) 1 q in
        let r = before (omega arith) in
        (r.0, omega (arith, r.1), r.2)

-- ---- how often a word stands somewhere
times-append : (w : ℕ) (a b : List ℕ) → times w (a ++ b) ≡ times w a + times w b
times-append w [] b = omega arith
times-append w (v ∷ a) b = omega (arith, times-append w a b)

times_cut : (w : ℕ) (ws zs : List ℕ) → upto (length zs) (λ s. times w (get_or (cut_by ws zs) s [])) ≡ times w (take (sum zs) ws)
times_cut w ws [] = refl
times_cut w ws (z ∷ zs) =
    upto_first (length zs) (λ s. times w (get_or (cut_by ws (z ∷ zs)) s []))
    ∙ ap (λ (n : ℕ). times w (take z ws) + n) (times_cut w (drop z ws) zs)
    ∙ sym (ap (times w) (take-add z (sum zs) ws) ∙ times-append w (take z ws) (take (sum zs) (drop z ws)))

-- the Subcycles of a cycle hold its words
subcycles_hold : (w n : ℕ) (ws zs : List ℕ) → Split n ws zs → upto (2 ^ n) (λ s. times w (get_or (subcycles ws zs) s [])) ≡ times w ws
subcycles_hold w zero ws zs e = rw e (omega arith)
subcycles_hold w (suc n) [] zs e = rw e (none (2 ^ suc n))
  where
    none : (k : ℕ) → upto k (λ s. times w (get_or ([] ∷ []) s [])) ≡ 0
    none zero = refl
    none (suc zero) = refl
    none (suc (suc k)) = omega (arith, none (suc k))
subcycles_hold w (suc n) (v ∷ ws) zs e = parts zs e.0 e.2
  where
    parts : (zs : List ℕ) → length zs ≡ 2 ^ suc n → sum zs ≡ suc (length ws) → upto (2 ^ suc n) (λ s. times w (get_or (subcycles (v ∷ ws) zs) s [])) ≡ times w (v ∷ ws)
    parts [] l s = absurd (omega (arith, pow_pos (suc n)))
    parts (z ∷ zs) l s =
        ap (λ (k : ℕ). upto k (λ s. times w (get_or (cut_by (v ∷ ws) (z ∷ zs)) s []))) (sym l) ∙ times_cut w (v ∷ ws) (z ∷ zs)
        ∙ ap (times w) (take_all (sum (z ∷ zs)) (v ∷ ws) (omega arith))

times_sub : (w : ℕ) (c : Cycle) (s : ℕ) → times w (subcycle c s) ≤ times w c.words
unfolding subcycle
times_sub w c s = go c.words c.splits s
  where
    times_take : (k : ℕ) (ws : List ℕ) → times w (take k ws) + times w (drop k ws) ≡ times w ws
    times_take zero ws = omega arith
    times_take (suc k) [] = omega arith
    times_take (suc k) (v ∷ ws) = omega (arith, times_take k ws)

    cut : (ws zs : List ℕ) (s : ℕ) → times w (get_or (cut_by ws zs) s []) ≤ times w ws
    cut ws [] s = omega arith
    cut ws (z ∷ zs) zero = omega (arith, times_take z ws)
    cut ws (z ∷ zs) (suc s) = omega (arith, times_take z ws, cut (drop z ws) zs s)

    go : (ws zs : List ℕ) (s : ℕ) → times w (get_or (subcycles ws zs) s []) ≤ times w ws
    go ws [] zero = omega arith
    go ws [] (suc s) = omega arith
    go ws (z ∷ zs) s = cut ws (z ∷ zs) s

times_sent : (w : ℕ) (cs : List Cycle) (m j : ℕ) → times w (sent_from m j cs) ≤ times w (words_of cs)
times_sent w [] m j = omega arith
times_sent w (c ∷ cs) m j =
    omega (arith, times-append w (subcycle c (j % 2 ^ m)) (sent_from (suc m) j cs), times-append w c.words (words_of cs), times_sub w c (j % 2 ^ m), times_sent w cs (suc m) j)

-- ---- no word is listed twice
listed_at : (w : ℕ) (ws : List ℕ) → 0 < times w ws → (i : ℕ) × (i < length ws) × (get_or ws i 0 ≡ w)
listed_at w [] h = absurd (omega arith)
listed_at w (v ∷ ws) h = go (listed_at w ws) (eqb v w) refl
  where
    go : (0 < times w ws → (i : ℕ) × (i < length ws) × (get_or ws i 0 ≡ w)) → (b : Bool) → eqb v w ≡ b → (i : ℕ) × (i < length (v ∷ ws)) × (get_or (v ∷ ws) i 0 ≡ w)
    go after true q = (0, omega arith, eqb-true v w q)
    go after false q =
        let e : one (eqb v w) ≡ 0 = ap one q in
        let r = after (omega arith) in
        (suc r.0, omega (arith, r.1), r.2)

self_clash : (w : ℕ) → Listable w → Clash w w
self_clash w p = ⊎_elim (λ h. inl (h, h, refl)) (λ h. inr (h, refl)) p

all-at : (P : ℕ → Type 0) (ws : List ℕ) → All P ws → (i : ℕ) → i < length ws → P (get_or ws i 0)
all-at P [] a i h = absurd (omega arith)
all-at P (w ∷ ws) a zero h = a.0
all-at P (w ∷ ws) a (suc i) h = all-at P ws a.1 i (omega arith)

single : (w : ℕ) (ws : List ℕ) → All Listable ws → ((i j : ℕ) → i < j → j < length ws → Clash (get_or ws i 0) (get_or ws j 0) → ⊥) → times w ws ≤ 1
single w [] a h = omega arith
single w (v ∷ ws) a h = go (single w ws a.1 (λ i j p q. h (suc i) (suc j) (omega arith) (omega arith))) (eqb v w) refl
  where
    none : eqb v w ≡ true → (t : Bool) → eqb (times w ws) 0 ≡ t → times w ws ≡ 0
    none e true q = eqb-true (times w ws) 0 q
    none e false q =
        let n : (times w ws ≡ 0 → ⊥) = eqb-false (times w ws) 0 q in
        let r = listed_at w ws (omega arith) in
        let s : v ≡ get_or ws r.0 0 = eqb-true v w e ∙ sym r.2 in
        absurd (h 0 (suc r.0) (omega arith) (omega (arith, r.1)) (subst (λ (x : ℕ). Clash v x) s (self_clash v a.0)))

    go : times w ws ≤ 1 → (b : Bool) → eqb v w ≡ b → times w (v ∷ ws) ≤ 1
    go rest true q = let e : one (eqb v w) ≡ 1 = ap one q in omega (arith, none q (eqb (times w ws) 0) refl)
    go rest false q = let e : one (eqb v w) ≡ 0 = ap one q in omega arith

-- ---- the theorem, over a list that obeys the rules
mod_of_mod : (x m e : ℕ) → m ≤ e → x % 2 ^ e % 2 ^ m ≡ x % 2 ^ m
mod_of_mod x m e h = let q : e - m + m ≡ e = omega arith in ap (λ (k : ℕ). x % 2 ^ k % 2 ^ m) (sym q) ∙ mod-mod-pow x (e - m) m

module _ (l : PeriodicList) (o : Obeys l) (w : ℕ) (done : List Cycle) (c : Cycle) (todo : List Cycle) (both : l.cycles ≡ done ++ c ∷ todo) (listed : 0 < times w c.words) where
  n : ℕ
  n = length done

  all_words : times w (words_of l.cycles) ≤ 1
  all_words = single w (words_of l.cycles) (obey_listable 0 l.cycles o.cycles) o.once

  words_split : times w (words_of l.cycles) ≡ times w (words_of done) + (times w c.words + times w (words_of todo))
  words_split =
      ap (λ (x : List Cycle). times w (words_of x)) both ∙ ap (times w) (words_append done (c ∷ todo)) ∙ times-append w (words_of done) (c.words ++ words_of todo)
      ∙ ap (λ (x : ℕ). times w (words_of done) + x) (times-append w c.words (words_of todo))

  n_below : n + 1 ≤ cycles_of l.head.ms
  unfolding n
  n_below = omega (arith, o.many, ap length both, length-append done (c ∷ todo))

  here : (j : ℕ) → times w (sends l j) ≡ times w (subcycle c (j % 2 ^ n))
  unfolding n
  here j =
      let e : sends l j ≡ sent_from 0 j done ++ (subcycle c (j % 2 ^ (0 + length done)) ++ sent_from (suc (0 + length done)) j todo) = ap (sent_from 0 j) both ∙ sent_append done (c ∷ todo) 0 j in
      let z : 0 + length done ≡ length done = omega arith in
      omega (
        arith,
        ap (times w) e,
        times-append w (sent_from 0 j done) (subcycle c (j % 2 ^ (0 + length done)) ++ sent_from (suc (0 + length done)) j todo),
        times-append w (subcycle c (j % 2 ^ (0 + length done))) (sent_from (suc (0 + length done)) j todo),
        times_sent w done 0 j,
        times_sent w todo (suc (0 + length done)) j,
        words_split,
        all_words,
        ap (λ (k : ℕ). times w (subcycle c (j % 2 ^ k))) z,
      )

  period : (x : ℕ) → sent_in l w x ≡ times w (subcycle c (x % 2 ^ n))
  period x =
      here (x % periods_of l.head.ms) ∙ ap (λ (k : ℕ). times w (subcycle c (x % k % 2 ^ n))) (periods_power l.head.ms)
      ∙ ap (λ (k : ℕ). times w (subcycle c k)) (mod_of_mod x n (cycles_of l.head.ms - 1) (omega (arith, n_below)))

  cycle_obeys : CycleObeys n c
  unfolding n
  cycle_obeys =
      let z : 0 + length done ≡ length done = omega arith in
      subst (λ (k : ℕ). CycleObeys k c) z (obey_right 0 done (c ∷ todo) (subst (CyclesObey 0) both o.cycles)).0

  total : (a : ℕ) → upto (2 ^ n) (λ t. sent_in l w (a + t)) ≡ 1
  unfolding subcycle
  total a =
      let s : upto (2 ^ n) (λ t. sent_in l w (a + t)) ≡ upto (2 ^ n) (λ t. times w (subcycle c ((a + t) % 2 ^ n))) =
      upto_same (2 ^ n) (λ t. sent_in l w (a + t)) (λ t. times w (subcycle c ((a + t) % 2 ^ n))) (λ t h. period (a + t)) in
      let r : upto (2 ^ n) (λ t. times w (subcycle c ((a + t) % 2 ^ n))) ≡ upto (2 ^ n) (λ s. times w (subcycle c s)) = turn (2 ^ n) a (λ s. times w (subcycle c s)) (pow_pos n) in
      omega (arith, s, r, subcycles_hold w n c.words c.splits cycle_obeys.splits, words_split, all_words)

  once_in : (a : ℕ) → OnceIn l w a (2 ^ length done)
  unfolding n
  once_in a =
      let f = find (2 ^ n) (λ t. sent_in l w (a + t)) (total a) in
      record {
        t = f.0;
        within = f.1;
        there = f.2;
        nowhere_else = λ u h d. omega (arith, upto_two (2 ^ n) (λ t. sent_in l w (a + t)) u f.0 h f.1 d, total a, f.2);
      }

-- a cycle of a list by its place
at_place : (cs : List Cycle) (n : ℕ) → n < length cs → (done : List Cycle) × (todo : List Cycle) × (cs ≡ done ++ get_or cs n (record { words = []; splits = [] }) ∷ todo) × (length done ≡ n)
at_place [] n h = absurd (omega arith)
at_place (c ∷ cs) zero h = ([], cs, refl, refl)
at_place (c ∷ cs) (suc n) h = let r = at_place cs n (omega arith) in (c ∷ r.0, r.1, ap (λ (l : List Cycle). c ∷ l) r.2, ap suc r.3)

-- the cycle 2^n of a list
abbrev pub cycle_at : PeriodicList → ℕ → Cycle
cycle_at l n = get_or l.cycles n (record { words = []; splits = [] })

-- "each of its frames goes out in exactly one Basic Period of any run as long as its cycle"
pub each_once : (s : List ℕ) (l : PeriodicList) (rest : List ℕ) → Bytes s → accepted s ≡ took l rest
    → (n : ℕ) → n < length l.cycles → (w : ℕ) → 0 < times w (cycle_at l n).words → (a : ℕ) → OnceIn l w a (2 ^ n)
each_once s l rest k e n h w p a =
    let o : Obeys l = (accepted_obeys s l rest k e).0 in
    let r = at_place l.cycles n h in
    subst (λ (m : ℕ). OnceIn l w a (2 ^ m)) r.3 (once_in l o w r.0 (cycle_at l n) r.1 r.2 p a)

-- nothing that is not listed goes out
pub nothing_else : (l : PeriodicList) (w : ℕ) → times w (words_of l.cycles) ≡ 0 → (j : ℕ) → times w (sends l j) ≡ 0
nothing_else l w h j = omega (arith, times_sent w l.cycles 0 j)

-- what an accepted Basic Period sends fits beside the reserve
pub period_fits : (s : List ℕ) (l : PeriodicList) (rest : List ℕ) → Bytes s → accepted s ≡ took l rest
    → (j : ℕ) → j < periods_of l.head.ms → takes l.head.gap (sends l j) + l.head.reserve ≤ 1500 * l.head.ms
period_fits s l rest k e j h = (accepted_obeys s l rest k e).0.fits j h
