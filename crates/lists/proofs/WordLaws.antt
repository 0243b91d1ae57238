-- The words of a cycle, as a loop reads them, and what they weigh.
-- Assumes nothing.
use Prim.Native.Nat.{ℕ, suc, ◌+◌, ◌-◌, ◌*◌, ◌≤◌, ◌<◌}
use mathlib.Core.Path.{◌≡◌, refl, ap, sym, ◌∙◌}
use mathlib.Core.List.{List, [], ◌∷◌, ◌++◌}
use native.Mathlib.Omega.{arith}
use lib.ListN.{length, get_or, take, length-take}
use Rattle.std.proofs.lemmas.List.{take_more, take_all}
use Rattle.frames.specs.Words.{f_code_of}
use Rattle.lists.specs.Rules.{Check, right, wrong, Rules, rules}
use Rattle.lists.specs.Reading.{Read, denied, took, then, when, number_in, words_in}
use Rattle.lists.specs.Inside.{word_in}
use Rattle.lists.specs.Weights.{weigh}

-- a word and what is read after it
word_then : {X : Type 0} (r : Rules) (before bytes : List ℕ) (f : ℕ → List ℕ → Read X)
    → then (number_in bytes) (λ w rest. when (r.word before w) (f w rest)) ≡ then (word_in r before bytes) f
word_then {X} r before bytes f = by_number (number_in bytes)
  where
    by_rule : (c : Check) (w : ℕ) (rest : List ℕ) → when c (f w rest) ≡ then (when c (took w rest)) f
    by_rule right w rest = refl
    by_rule (wrong n) w rest = refl

    by_number : (n : Read ℕ) → then n (λ w rest. when (r.word before w) (f w rest)) ≡ then (then n (λ w rest. when (r.word before w) (took w rest))) f
    by_number (denied n) = refl
    by_number (took w rest) = by_rule (r.word before w) w rest

module _ (count i : ℕ) (listed own bytes : List ℕ) (total : Read (List ℕ)) (below : i < count) (so_far : words_in rules (count - i) listed own bytes ≡ total) where
  next_one : then (word_in rules (listed ++ own) bytes) (λ w rest. words_in rules (count - (i + 1)) listed (own ++ w ∷ []) rest) ≡ total
  next_one =
      let k : count - i ≡ suc (count - (i + 1)) = omega arith in
      sym (word_then rules (listed ++ own) bytes (λ w rest. words_in rules (count - (i + 1)) listed (own ++ w ∷ []) rest)) ∙ rw k at so_far

  pub words_next : (w : ℕ) (rest : List ℕ) → word_in rules (listed ++ own) bytes ≡ took w rest → words_in rules (count - (i + 1)) listed (own ++ w ∷ []) rest ≡ total
  words_next w rest h = rw h at next_one

  pub words_stop : (n : ℕ) → word_in rules (listed ++ own) bytes ≡ denied n → total ≡ denied n
  words_stop n h = sym (rw h at next_one)

-- ---- the weights of words
pub weigh_append : (weights a b : List ℕ) → weigh weights (a ++ b) ≡ weigh weights a + weigh weights b
weigh_append weights [] b = omega arith
weigh_append weights (w ∷ a) b = omega (arith, weigh_append weights a b)

pub weigh_few : (weights ws : List ℕ) → ((f : ℕ) → get_or weights f 0 ≤ 458) → weigh weights ws ≤ 458 * length ws
weigh_few weights [] m = omega arith
weigh_few weights (v ∷ ws) m = omega (arith, m (f_code_of v), weigh_few weights ws m)

-- with a word more
module _ (weights ws : List ℕ) (i : ℕ) (h : i < length ws) where
  pub weigh_more : weigh weights (take (i + 1) ws) ≡ weigh weights (take i ws) + get_or weights (f_code_of (get_or ws i 0)) 0
  weigh_more = ap (weigh weights) (take_more ws i 0 h) ∙ weigh_append weights (take i ws) (get_or ws i 0 ∷ []) ∙ omega arith

  pub weigh_fits : length ws ≤ 256 → ((f : ℕ) → get_or weights f 0 ≤ 458) → weigh weights (take i ws) + get_or weights (f_code_of (get_or ws i 0)) 0 < 4294967296
  weigh_fits l m = omega (arith, weigh_few weights (take i ws) m, m (f_code_of (get_or ws i 0)), length-take i ws)

pub all_weight : (weights ws : List ℕ) (i : ℕ) → length ws ≤ i → weigh weights (take i ws) ≡ weigh weights ws
all_weight weights ws i h = ap (weigh weights) (take_all i ws h)
