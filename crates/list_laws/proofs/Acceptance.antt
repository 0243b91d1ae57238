-- A list file is accepted exactly when some list that obeys the rules is written so; there is only one such list, and it is the one that is read.
-- Assumes nothing.
use Prim.Native.Nat.{ℕ, suc, ◌+◌, ◌*◌, ◌≤◌, ◌<◌}
use mathlib.Core.Path.{◌≡◌, refl, ap, sym, ◌∙◌, subst}
use mathlib.Core.List.{List, [], ◌∷◌, ◌++◌, append-nil}
use mathlib.Core.Bool.{true, false, not}
use native.Mathlib.Omega.{arith}
use borrow.Author.Tests.{le-leb, leb-true, le-ltb, ltb-false, not-true}
use lib.Dec.{ltb, leb}
use lib.ListN.{length}
use Rattle.numbers.specs.Written.{written, Bytes, Most}
use Rattle.lists.specs.declared.Header.{Header}
use Rattle.lists.specs.Values.{Cycle, PeriodicList, cycles_of, periods_of, words_of}
use Rattle.lists.specs.Rules.{right, unless, also, rules}
use Rattle.lists.specs.Reading.{took, then, header_in, cycles_in, list_in}
use Rattle.lists.specs.Sends.{sends, takes, overfull, crowded}
use Rattle.lists.specs.Accepts.{none, ending, ended, accepted}
use Rattle.lists.specs.Inside.{GoodHead}
use Rattle.list_laws.specs.Written.{cycles_numbers, file, All, Listable, CyclesObey, Obeys}
use Rattle.lists.proofs.LoadLaws.{some_none, some_false}
use Rattle.lists.proofs.ListLaws.{good_head}
use Rattle.lists.proofs.ThenLaws.{then_yes, when_yes, unless_right, also_right, yes_value, yes_rest}
use Rattle.list_laws.proofs.WasLaws.{listable_most, Fresh, fresh_left, fresh_right, Shaped, head_written, header_was, header_back, cycles_was, cycles_back}
use Rattle.list_laws.proofs.ClashLaws.{prop_listable, fresh_once, once_fresh, fresh_listable}

-- ---- after the last cycle
none_left : (rest : List ℕ) → none rest ≡ true → rest ≡ []
none_left [] e = refl
none_left (b ∷ rest) e = let z : ◌≡◌ {A = ℕ} 0 1 = cc in absurd (omega arith)

abbrev pub Fits : PeriodicList → Type 0
Fits l = (j : ℕ) → j < periods_of l.head.ms → takes l.head.gap (sends l j) + l.head.reserve ≤ 1500 * l.head.ms

abbrev pub Few : PeriodicList → Type 0
Few l = (j : ℕ) → j < periods_of l.head.ms → length (sends l j) ≤ 64

ending_was : (l : PeriodicList) (rest : List ℕ) → ending l rest ≡ right → (rest ≡ []) × Fits l × Few l
unfolding ending overfull crowded
ending_was l rest e =
    let a = also_right (unless 11 (none rest)) (also (unless 10 (not (overfull l))) (unless 19 (not (crowded l)))) e in
    let b = also_right (unless 10 (not (overfull l))) (unless 19 (not (crowded l))) a.1 in
    let o : overfull l ≡ false = not-true (overfull l) (unless_right 10 (not (overfull l)) b.0) in
    let c : crowded l ≡ false = not-true (crowded l) (unless_right 19 (not (crowded l)) b.1) in (
      none_left rest (unless_right 11 (none rest) a.0),
      λ j h. ltb-false (1500 * l.head.ms) (takes l.head.gap (sends l j) + l.head.reserve)
          (some_false (periods_of l.head.ms) (λ (j : ℕ). ltb (1500 * l.head.ms) (takes l.head.gap (sends l j) + l.head.reserve)) o j h),
      λ j h. ltb-false 64 (length (sends l j)) (some_false (periods_of l.head.ms) (λ (j : ℕ). ltb 64 (length (sends l j))) c j h),
    )

ending_back : (l : PeriodicList) → Fits l → Few l → ending l [] ≡ right
unfolding ending overfull crowded
ending_back l f g =
    let o : overfull l ≡ false = some_none (periods_of l.head.ms) (λ (j : ℕ). ltb (1500 * l.head.ms) (takes l.head.gap (sends l j) + l.head.reserve)) (λ j h. le-ltb _ _ (f j h)) in
    let c : crowded l ≡ false = some_none (periods_of l.head.ms) (λ (j : ℕ). ltb 64 (length (sends l j))) (λ j h. le-ltb _ _ (g j h)) in
    rw (o, c)

-- ---- the cycles
cycles_obey : (n : ℕ) (before : List ℕ) (cs : List Cycle) → Shaped n cs → Fresh before (words_of cs) → CyclesObey n cs
cycles_obey n before [] s f = tt
cycles_obey n before (c ∷ cs) s f = (
  record { count = s.0; words = fresh_listable before c.words (fresh_left before c.words (words_of cs) f); splits = s.1 },
  cycles_obey (suc n) (before ++ c.words) cs s.2 (fresh_right before c.words (words_of cs) f),
)

obey_shaped : (n : ℕ) (cs : List Cycle) → CyclesObey n cs → Shaped n cs
obey_shaped n [] o = tt
obey_shaped n (c ∷ cs) o = (o.0.count, o.0.splits, obey_shaped (suc n) cs o.1)

all_append : (us vs : List ℕ) → All Listable us → All Listable vs → All Listable (us ++ vs)
all_append [] vs a b = b
all_append (u ∷ us) vs a b = (a.0, all_append us vs a.1 b)

pub obey_listable : (n : ℕ) (cs : List Cycle) → CyclesObey n cs → All Listable (words_of cs)
obey_listable n [] o = tt
obey_listable n (c ∷ cs) o = all_append c.words (words_of cs) o.0.words (obey_listable (suc n) cs o.1)

-- ---- the file
pub record Accepted (s : List ℕ) (l : PeriodicList) : Type 0 where
  pub size : length s ≤ 16384
  pub good : GoodHead l.head
  pub after_head : List ℕ
  pub head_read : header_in s ≡ took l.head after_head
  pub end : List ℕ
  pub cycles_read : cycles_in rules (cycles_of l.head.ms) 0 [] after_head ≡ took l.cycles end
  pub ends : ending l end ≡ right

accepted_parts : (s : List ℕ) (l : PeriodicList) (rest : List ℕ) → accepted s ≡ took l rest → Accepted s l × (ending l rest ≡ right)
unfolding accepted list_in ended
accepted_parts s l rest e =
    let u = when_yes (unless 1 (leb (length s) 16384)) (then (list_in rules s) ended) l rest e in
    let i = then_yes (list_in rules s) ended l rest u.1 in
    let w = when_yes (ending i.0 i.1) (took i.0 i.1) l rest i.3 in
    let h = then_yes (header_in s) (λ h r. then (cycles_in rules (cycles_of h.ms) 0 [] r) (λ cs end. took (record { head = h; cycles = cs }) end)) i.0 i.1 i.2 in
    let c = then_yes (cycles_in rules (cycles_of h.0.ms) 0 [] h.1) (λ cs end. took (record { head = h.0; cycles = cs }) end) i.0 i.1 h.3 in
    named i.0 i.1 h.0 h.1 c.0 c.1 (leb-true (length s) 16384 (unless_right 1 (leb (length s) 16384) u.0)) h.2 c.2 c.3 w.0 w.1
  where
    named : (l' : PeriodicList) (r : List ℕ) (h : Header) (after : List ℕ) (cs : List Cycle) (end : List ℕ) → length s ≤ 16384 → header_in s ≡ took h after
        → cycles_in rules (cycles_of h.ms) 0 [] after ≡ took cs end → took (record { head = h; cycles = cs }) end ≡ took l' r → ending l' r ≡ right → took l' r ≡ took l rest
        → Accepted s l × (ending l rest ≡ right)
    named l' r h after cs end z eh ec en x y =
        let a : record { head = h; cycles = cs } ≡ l' = yes_value (record { head = h; cycles = cs }) l' end r en in
        let b : end ≡ r = yes_rest (record { head = h; cycles = cs }) l' end r en in
        let c : l' ≡ l = yes_value l' l r rest y in
        let d : r ≡ rest = yes_rest l' l r rest y in
        let p : ending (record { head = h; cycles = cs }) end ≡ right = rw (a, b) x in
        let q : Accepted s (record { head = h; cycles = cs }) = record { size = z; good = good_head s h after eh; after_head = after; head_read = eh; end = end; cycles_read = ec; ends = p } in
        (subst (Accepted s) (a ∙ c) q, rw (c, d) at x)

pub accepted_obeys : (s : List ℕ) (l : PeriodicList) (rest : List ℕ) → Bytes s → accepted s ≡ took l rest → Obeys l × (file l ≡ s) × (rest ≡ [])
accepted_obeys s l rest k e =
    let a = accepted_parts s l rest e in
    let p : Accepted s l = a.0 in
    let n = ending_was l p.end p.ends in
    let m = ending_was l rest a.1 in
    let hw = header_was s l.head p.after_head k p.head_read in
    let cw = cycles_was (cycles_of l.head.ms) 0 [] l.cycles p.after_head p.end hw.1 p.cycles_read in
    let c : l.cycles ≡ cw.new = cw.are in
    let b : p.after_head ≡ written (cycles_numbers l.cycles) =
    cw.bytes_are ∙ ap (λ (x : List ℕ). written (cycles_numbers cw.new) ++ x) n.0 ∙ append-nil (written (cycles_numbers cw.new)) ∙ ap (λ (x : List Cycle). written (cycles_numbers x)) (sym c) in
    let f : file l ≡ s = sym (hw.0 ∙ ap (head_written l.head.ms l.head.gap l.head.reserve) b) in
    let fr : Fresh [] (words_of l.cycles) = subst (λ (x : List Cycle). Fresh [] (words_of x)) (sym c) cw.fresh in
    let sh : Shaped 0 l.cycles = subst (Shaped 0) (sym c) cw.shape in (
      record {
        size = omega (arith, p.size, ap length f);
        ms = (p.good.ms_low, p.good.ms_high);
        gap = (p.good.gap_low, p.good.gap_high);
        reserve = (p.good.reserve_low, p.good.reserve_high);
        many = ap length c ∙ cw.long;
        cycles = cycles_obey 0 [] l.cycles sh fr;
        once = fresh_once (words_of l.cycles) fr;
        fits = n.1;
        frames = n.2;
      },
      f,
      m.0,
    )

pub obeys_accepted : (l : PeriodicList) → Obeys l → accepted (file l) ≡ took l []
unfolding accepted list_in ended
obeys_accepted l o =
    let g : GoodHead l.head = record { ms_low = o.ms.0; ms_high = o.ms.1; gap_low = o.gap.0; gap_high = o.gap.1; reserve_low = o.reserve.0; reserve_high = o.reserve.1 } in
    let fr : Fresh [] (words_of l.cycles) = once_fresh (words_of l.cycles) (obey_listable 0 l.cycles o.cycles) o.once in
    let h : header_in (file l) ≡ took l.head (written (cycles_numbers l.cycles)) = header_back l.head (written (cycles_numbers l.cycles)) g in
    let c : cycles_in rules (cycles_of l.head.ms) 0 [] (written (cycles_numbers l.cycles)) ≡ took l.cycles [] =
    ap (λ (k : ℕ). cycles_in rules k 0 [] (written (cycles_numbers l.cycles))) (sym o.many)
    ∙ ap (cycles_in rules (length l.cycles) 0 []) (sym (append-nil (written (cycles_numbers l.cycles))))
    ∙ cycles_back l.cycles [] 0 [] fr (obey_shaped 0 l.cycles o.cycles) in
    let n : ending l [] ≡ right = ending_back l o.fits o.frames in
    rw (le-leb (length (file l)) 16384 o.size, h, c, n)

-- "A list is accepted exactly when the rules of document 01 hold"
pub accepted_exactly : (s : List ℕ) (l : PeriodicList) → Bytes s → (accepted s ≡ took l [] → Obeys l × (file l ≡ s)) × (Obeys l × (file l ≡ s) → accepted s ≡ took l [])
accepted_exactly s l k = (
  λ e. let p = accepted_obeys s l [] k e in (p.0, p.1),
  λ p. subst (λ (x : List ℕ). accepted x ≡ took l []) p.1 (obeys_accepted l p.0),
)

-- only one list is written so
pub one_list : (l m : PeriodicList) → Obeys l → Obeys m → file l ≡ file m → l ≡ m
one_list l m o p e = yes_value l m [] [] (sym (obeys_accepted l o) ∙ ap accepted e ∙ obeys_accepted m p)

-- ---- what a list that obeys the rules is written of
pub words_most : (ws : List ℕ) → All Listable ws → Most ws
words_most [] a = tt
words_most (w ∷ ws) a = (listable_most w (prop_listable w a.0), words_most ws a.1)

pub small_most : (zs : List ℕ) → All (λ z. z ≤ 256) zs → Most zs
small_most [] a = tt
small_most (z ∷ zs) a = (omega (arith, a.0), small_most zs a.1)
