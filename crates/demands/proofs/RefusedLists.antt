-- What a refusal of a number, a list, a Basic Period and the list program's text is, and that it leaves what was lent.
-- Assumes nothing.
use mathlib.Core.Path.{◌≡◌, refl, sym, subst, ◌∙◌}
use mathlib.Core.Bool.{Bool, true, false, not, ◌&&◌}
use mathlib.Core.List.Memᴰ
use mathlib.Core.List.{List, [], ◌∷◌, ◌++◌}
use Prim.Native.Nat.{ℕ, zero, suc, ◌≤◌, ◌+◌, ◌*◌}
use native.Mathlib.Decide.{dec_le}
use native.Mathlib.Omega.{arith}
use lib.Dec.{eqb, ltb, leb}
use lib.ListN.{length, drop}
use Rattle.refusals.specs.Told.{gives, refusal}
use Rattle.numbers.specs.Number.{Taken, bad, taken, number as numberFirst, from, number_at, sum}
use Rattle.lists.specs.Values.{PeriodicList, periods_of, words_of}
use Rattle.lists.specs.Rules.{Check, right, wrong, unless, also, listable, clashes, split_rule}
use Rattle.lists.specs.Reading.{Read, denied, took}
use Rattle.lists.specs.Sends.{sends, overfull, crowded}
use Rattle.lists.specs.Accepts.{none, ending, accepted}
use Rattle.list_laws.specs.Order.{Want, one, ms, gap, reserve, count, word, split, Due, want, over, range, check, next, Refuses, unreadable, fails, later, at-end}
use Rattle.lists.specs.Answers.{told_read}
use Rattle.periods.specs.Period.{asked_by, period_by}
use Rattle.list_text.specs.Text.{text_of, text_by}
use Rattle.mvb.specs.Lists.{read_by, check_answer, check_number}
use Rattle.list_laws.proofs.OrderLaws.{first_fault, too_long_first}
use Rattle.demands.specs.EntryPoints.{list_refusals}
use Rattle.demands.specs.Demand1.{Refusing}
use Rattle.demands.proofs.Chains.{Listed, answers, refuses, listed, unless as if-not}

-- ---- numbers
pub number : (s : List ℕ) (place : ℕ) → Refusing (5 ∷ []) (number_at s place) (Unit {0})
unfolding number_at
number s place = go (numberFirst (drop place s))
  where
    go : (t : Taken) → Refusing (5 ∷ []) (from place t) (Unit {0})
    go bad = refuses 5 (listed (5 ∷ []) 5 refl) tt
    go (taken v n) = answers _

-- ---- the list file
unless_listed : (k : ℕ) (b : Bool) (m : ℕ) → Listed list_refusals k → unless k b ≡ wrong m → Listed list_refusals m
unless_listed k true m h e = let z : ◌≡◌ {A = ℕ} 0 1 = cc in absurd (omega arith)
unless_listed k false m h e = let s : k ≡ m = cc in subst (Listed list_refusals) s h

also_listed : (a b : Check) (m : ℕ) → (a ≡ wrong m → Listed list_refusals m) → (b ≡ wrong m → Listed list_refusals m) → also a b ≡ wrong m → Listed list_refusals m
also_listed right b m f g e = g e
also_listed (wrong n) b m f g e = f e

range_listed : (lo hi v m : ℕ) → range lo hi v ≡ wrong m → Listed list_refusals m
range_listed lo hi v m e = unless_listed 6 (leb lo v && leb v hi) m (listed list_refusals 6 refl) e

check_listed : (w : Want) (v m : ℕ) → check w v ≡ wrong m → Listed list_refusals m
check_listed one v m e = range_listed 1 1 v m e
check_listed ms v m e = range_listed 1 2 v m e
check_listed (gap p) v m e = range_listed 4 128 v m e
check_listed (reserve p g) v m e = range_listed (67 + g) (1500 * p) v m e
check_listed (count h cs) v m e = range_listed 0 256 v m e
check_listed (word h cs ws k) v m e =
    also_listed (unless 7 (listable v)) (unless 8 (not (clashes v (words_of cs ++ ws)))) m
    (unless_listed 7 (listable v) m (listed list_refusals 7 refl)) (unless_listed 8 (not (clashes v (words_of cs ++ ws))) m (listed list_refusals 8 refl)) e
check_listed (split h cs ws zs zero) v m e =
    also_listed (range 0 256 v) (split_rule (length ws) (zs ++ v ∷ [])) m (range_listed 0 256 v m) (unless_listed 9 (eqb (sum (zs ++ v ∷ [])) (length ws)) m (listed list_refusals 9 refl)) e
check_listed (split h cs ws zs (suc k)) v m e = range_listed 0 256 v m e

ending_listed : (l : PeriodicList) (rest : List ℕ) (m : ℕ) → ending l rest ≡ wrong m → Listed list_refusals m
unfolding ending
ending_listed l rest m e =
    also_listed (unless 11 (none rest)) _ m (unless_listed 11 (none rest) m (listed list_refusals 11 refl))
    (also_listed (unless 10 (not (overfull l))) (unless 19 (not (crowded l))) m (unless_listed 10 (not (overfull l)) m (listed list_refusals 10 refl)) (unless_listed 19 (not (crowded l)) m (listed list_refusals 19 refl)))
    e

refuses_listed : (d : Due) (bytes : List ℕ) (m : ℕ) → Refuses d bytes m → Listed list_refusals m
refuses_listed (want w) bytes m (unreadable e) = listed list_refusals 5 refl
refuses_listed (want w) bytes m (fails {v = v} e f) = check_listed w v m f
refuses_listed (want w) bytes m (later {v = v} {n = n} e f r) = refuses_listed (next w v) (drop n bytes) m r
refuses_listed (over l) bytes m (at-end e) = ending_listed l bytes m e

same : (k m : ℕ) → ◌≡◌ {A = Read PeriodicList} (denied k) (denied m) → k ≡ m
same k m e = cc

denied_listed : (s : List ℕ) (m : ℕ) → accepted s ≡ denied m → Listed list_refusals m
denied_listed s m e = by_size (dec_le (length s) 16384)
  where
    by_size : Dec (length s ≤ 16384) → Listed list_refusals m
    by_size (yes h) = refuses_listed (want one) s m ((first_fault s m h).0 e)
    by_size (no h) = let k : 1 ≡ m = same 1 m (sym (too_long_first s (omega arith)) ∙ e) in subst (Listed list_refusals) k (listed list_refusals 1 refl)

pub list_check_lem : (s : List ℕ) → Refusing list_refusals (told_read (accepted s)) (Unit {0})
list_check_lem s = go (accepted s) refl
  where
    go : (x : Read PeriodicList) → accepted s ≡ x → Refusing list_refusals (told_read x) (Unit {0})
    go (denied n) e = refuses n (denied_listed s n e) tt
    go (took l rest) e = answers _

-- the same as C calls it: the header's numbers go to lent numbers
pub mvb_list_check_lem : (s : List ℕ) (p g v : ℕ)
    → Refusing list_refusals (check_answer s)
    ((check_number (λ l. l.head.ms) s p ≡ p) × (check_number (λ l. l.head.gap) s g ≡ g) × (check_number (λ l. l.head.reserve) s v ≡ v))
unfolding check_answer check_number
mvb_list_check_lem s p g v = go (accepted s) refl
  where
    go : (x : Read PeriodicList) → accepted s ≡ x
        → Refusing list_refusals (read_by x refusal (λ l. gives (length (words_of l.cycles) ∷ [])))
        ((read_by x (λ n. p) (λ l. l.head.ms) ≡ p) × (read_by x (λ n. g) (λ l. l.head.gap) ≡ g) × (read_by x (λ n. v) (λ l. l.head.reserve) ≡ v))
    go (denied n) e = refuses n (denied_listed s n e) (refl, refl, refl)
    go (took l rest) e = answers _

pub basic_period_lem : (s : List ℕ) (j : ℕ) (out : List ℕ)
    → Refusing (12 ∷ 4 ∷ list_refusals) (period_by s j (length out) refusal (λ ws. gives (length ws ∷ []))) (period_by s j (length out) (λ n. out) (λ ws. ws ++ drop (length ws) out) ≡ out)
unfolding period_by
basic_period_lem s j out = go (accepted s) refl
  where
    -- a list refusal is one of them too
    more : (n : ℕ) → Listed list_refusals n → Listed (12 ∷ 4 ∷ list_refusals) n
    more n h = (h.0, h.1, Memᴰ.tail (Memᴰ.tail h.2))

    go : (x : Read PeriodicList) → accepted s ≡ x
        → Refusing (12 ∷ 4 ∷ list_refusals) (asked_by x j (length out) refusal (λ ws. gives (length ws ∷ []))) (asked_by x j (length out) (λ n. out) (λ ws. ws ++ drop (length ws) out) ≡ out)
    go (denied n) e = refuses n (more n (denied_listed s n e)) refl
    go (took l rest) e =
        if-not (12 ∷ 4 ∷ list_refusals) (ltb j (periods_of l.head.ms)) 12 _ _ out refl
        (if-not (12 ∷ 4 ∷ list_refusals) (leb (length (sends l j)) (length out)) 4 _ _ out refl (answers _))

pub list_text_lem : (s out : List ℕ)
    → Refusing (4 ∷ []) (text_by s (length out) refusal (λ t. gives (length t ∷ []))) (text_by s (length out) (λ n. out) (λ t. t ++ drop (length t) out) ≡ out)
unfolding text_by
list_text_lem s out = if-not (4 ∷ []) (leb (length (text_of (accepted s))) (length out)) 4 _ _ out refl (answers _)
