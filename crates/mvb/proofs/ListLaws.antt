-- Answers of the list's calls, taken apart for C: each value is below 65,536.
-- Assumes nothing.
use mathlib.Core.Path.{◌≡◌, refl, sym, ap}
use mathlib.Core.Bool.{Bool, true, false, cond}
use mathlib.Core.List.{List, [], ◌∷◌}
use Prim.Native.Nat.{ℕ, ◌≤◌, ◌<◌}
use native.Mathlib.Omega.{arith}
use borrow.Author.Tests.{ltb-true}
use lib.Dec.{ltb, leb}
use lib.ListN.{length}
use Rattle.refusals.specs.Told.{gives, refusal}
use Rattle.numbers.specs.Written.{Bytes}
use Rattle.lists.specs.declared.Header.{Header}
use Rattle.lists.specs.Values.{PeriodicList, words_of, periods_of}
use Rattle.lists.specs.Reading.{Read, denied, took}
use Rattle.lists.specs.Sends.{sends}
use Rattle.lists.specs.Accepts.{accepted}
use Rattle.lists.specs.Answers.{told_read}
use Rattle.list_laws.specs.Written.{Obeys}
use Rattle.list_laws.proofs.Acceptance.{accepted_obeys}
use Rattle.periods.specs.Period.{period_by, asked_by}
use Rattle.list_text.specs.Text.{text_of, text_by}
use Rattle.list_text.proofs.TextLaws.{all_words_few, bytes_fit, always_enough}
use Rattle.mvb.specs.Lists.{check_answer, check_number}

-- ---- the check of a list

-- what an accepted list tells C
pub record Checked (s : List ℕ) (h : Header) (n : ℕ) : Type 0 where
  pub answer : gives (n ∷ []) ≡ check_answer s
  pub few : n < 65536
  pub ms : (before : ℕ) → h.ms ≡ check_number (λ l. l.head.ms) s before
  pub gap : (before : ℕ) → h.gap ≡ check_number (λ l. l.head.gap) s before
  pub reserve : (before : ℕ) → h.reserve ≡ check_number (λ l. l.head.reserve) s before

pub check_done : (s : List ℕ) (h : Header) (n : ℕ) → Bytes s → gives (h.ms ∷ h.gap ∷ h.reserve ∷ n ∷ []) ≡ told_read (accepted s) → Checked s h n
unfolding check_answer check_number
check_done s h n b e = go (accepted s) refl e
  where
    go : (r : Read PeriodicList) → accepted s ≡ r → gives (h.ms ∷ h.gap ∷ h.reserve ∷ n ∷ []) ≡ told_read r → Checked s h n
    go (denied m) q t = absurd (let z : ◌≡◌ {A = ℕ} 0 1 = cc in omega arith)
    go (took l rest) q t =
        let w : n ≡ length (words_of l.cycles) = cc in
        let p : h.ms ≡ l.head.ms = cc in
        let g : h.gap ≡ l.head.gap = cc in
        let v : h.reserve ≡ l.head.reserve = cc in
        record {
          answer = rw q (ap (λ (x : ℕ). gives (x ∷ [])) w);
          few = omega (arith, all_words_few l (accepted_obeys s l rest b q).0);
          ms = λ before. rw q p;
          gap = λ before. rw q g;
          reserve = λ before. rw q v;
        }

pub check_refused : (s : List ℕ) (m : ℕ) → refusal m ≡ told_read (accepted s)
    → (refusal m ≡ check_answer s) × ((number : PeriodicList → ℕ) (before : ℕ) → before ≡ check_number number s before)
unfolding check_answer check_number
check_refused s m e = go (accepted s) refl e
  where
    go : (r : Read PeriodicList) → accepted s ≡ r → refusal m ≡ told_read r → (refusal m ≡ check_answer s) × ((number : PeriodicList → ℕ) (before : ℕ) → before ≡ check_number number s before)
    go (denied k) q t = (rw q t, λ number before. rw q)
    go (took l rest) q t = absurd (let z : ◌≡◌ {A = ℕ} 0 1 = cc in omega arith)

-- ---- a Basic Period

-- "more than 64 frames in a Basic Period" are refused
pub words_most : (s : List ℕ) (j room k : ℕ) → Bytes s → gives (k ∷ []) ≡ period_by s j room refusal (λ ws. gives (length ws ∷ [])) → k ≤ 64
unfolding period_by
words_most s j room k b e = go (accepted s) refl e
  where
    sent : (l : PeriodicList) (x y : Bool) → ltb j (periods_of l.head.ms) ≡ x → Obeys l
        → gives (k ∷ []) ≡ cond x (cond y (gives (length (sends l j) ∷ [])) (refusal 4)) (refusal 12) → k ≤ 64
    sent l true true q o t = let w : k ≡ length (sends l j) = cc in omega (arith, o.frames j (ltb-true j (periods_of l.head.ms) q))
    sent l true false q o t = absurd (let z : ◌≡◌ {A = ℕ} 0 1 = cc in omega arith)
    sent l false y q o t = absurd (let z : ◌≡◌ {A = ℕ} 0 1 = cc in omega arith)

    go : (r : Read PeriodicList) → accepted s ≡ r → gives (k ∷ []) ≡ asked_by r j room refusal (λ ws. gives (length ws ∷ [])) → k ≤ 64
    go (denied m) q t = absurd (let z : ◌≡◌ {A = ℕ} 0 1 = cc in omega arith)
    go (took l rest) q t = sent l (ltb j (periods_of l.head.ms)) (leb (length (sends l j)) room) refl (accepted_obeys s l rest b q).0 t

-- ---- the text

pub bytes_most : (s : List ℕ) (room k : ℕ) → Bytes s → gives (k ∷ []) ≡ text_by s room refusal (λ t. gives (length t ∷ [])) → k ≤ 42256
unfolding text_by
bytes_most s room k b e = go (leb (length (text_of (accepted s))) room) e
  where
    most : length (text_of (accepted s)) ≤ 42256
    most = bytes_fit s 42256 (length (text_of (accepted s))) (sym (always_enough s 42256 b (omega arith)))

    go : (x : Bool) → gives (k ∷ []) ≡ cond x (gives (length (text_of (accepted s)) ∷ [])) (refusal 4) → k ≤ 42256
    go true t = let w : k ≡ length (text_of (accepted s)) = cc in omega (arith, most)
    go false t = absurd (let z : ◌≡◌ {A = ℕ} 0 1 = cc in omega arith)
