-- Numerals and lines: their digits by what they count, and how long they can be.
-- Assumes nothing.
use Prim.Native.Nat.{ℕ, ◌+◌, ◌/◌, ◌%◌, ◌≤◌, ◌<◌}
use mathlib.Core.Path.{◌≡◌, refl, ap, sym, ◌∙◌}
use mathlib.Core.Logic.{⊎_elim}
use mathlib.Core.List.{List, [], ◌∷◌, ◌++◌, append_assoc}
use mathlib.Core.Bool.{Bool, true, false, cond}
use native.Mathlib.Omega.{arith}
use borrow.Author.Tests.{lt-ltb, le-ltb, le-leb, lt-leb}
use lib.Dec.{ltb, leb}
use lib.ListN.{length, drop, length-append}
use Rattle.std.proofs.lemmas.Bool.{cases_lt}
use Rattle.list_text.specs.Text.{digit, two, decimal, hex, space, newline, field, header_line, word_line, refused_line}
use Rattle.list_text.specs.Inside.{place}

-- ---- the digits of a number
pub place_few : (n unit : ℕ) → length (place n unit) ≤ 1
unfolding place
place_few n unit = go (leb unit n)
  where
    go : (t : Bool) → length (cond t (digit (n / unit % 10) ∷ []) []) ≤ 1
    go true = omega arith
    go false = omega arith

none_there : (n unit : ℕ) → n < unit → place n unit ≡ []
unfolding place
none_there n unit h = rw (lt-leb unit n h)

one_there : (n unit d : ℕ) → unit ≤ n → n / unit % 10 ≡ d → place n unit ≡ digit d ∷ []
unfolding place
one_there n unit d h e = rw (le-leb unit n h) (ap (λ (k : ℕ). digit k ∷ []) e)

two_small : (n : ℕ) → n < 10 → two n ≡ digit n ∷ []
unfolding two
two_small n h = rw (lt-ltb n 10 h)

two_large : (n : ℕ) → 10 ≤ n → two n ≡ digit (n / 10) ∷ digit (n % 10) ∷ []
unfolding two
two_large n h = rw (le-ltb n 10 h)

decimal_small : (n : ℕ) → n < 100 → decimal n ≡ two n
unfolding decimal
decimal_small n h = rw (lt-ltb n 100 h)

decimal_large : (n : ℕ) → 100 ≤ n → decimal n ≡ (two (n / 100) ++ digit (n / 10 % 10) ∷ []) ++ digit (n % 10) ∷ []
unfolding decimal
decimal_large n h = rw (le-ltb n 100 h)

-- a numeral is the digits that count thousands, hundreds, tens and ones, as many as the number has
pub decimal_places : (n : ℕ) → n < 10000 → decimal n ≡ ((place n 1000 ++ place n 100) ++ place n 10) ++ digit (n % 10) ∷ []
decimal_places n h =
    ⊎_elim below_10 (λ a. ⊎_elim (below_100 a) (λ b. ⊎_elim (below_1000 b) above (cases_lt n 1000)) (cases_lt n 100)) (cases_lt n 10)
  where
    below_10 : n < 10 → decimal n ≡ ((place n 1000 ++ place n 100) ++ place n 10) ++ digit (n % 10) ∷ []
    below_10 l =
        let m : n % 10 ≡ n = omega arith in
        rw (none_there n 1000 (omega arith), none_there n 100 (omega arith), none_there n 10 l) (decimal_small n (omega arith) ∙ two_small n l ∙ ap (λ (k : ℕ). digit k ∷ []) (sym m))

    below_100 : 10 ≤ n → n < 100 → decimal n ≡ ((place n 1000 ++ place n 100) ++ place n 10) ++ digit (n % 10) ∷ []
    below_100 g l =
        rw (none_there n 1000 (omega arith), none_there n 100 l, one_there n 10 (n / 10) g (omega arith)) (decimal_small n l ∙ two_large n g)

    below_1000 : 100 ≤ n → n < 1000 → decimal n ≡ ((place n 1000 ++ place n 100) ++ place n 10) ++ digit (n % 10) ∷ []
    below_1000 g l =
        rw (none_there n 1000 l, one_there n 100 (n / 100) g (omega arith), one_there n 10 (n / 10 % 10) (omega arith) refl)
        (decimal_large n g ∙ ap (λ (x : List ℕ). (x ++ digit (n / 10 % 10) ∷ []) ++ digit (n % 10) ∷ []) (two_small (n / 100) (omega arith)))

    above : 1000 ≤ n → decimal n ≡ ((place n 1000 ++ place n 100) ++ place n 10) ++ digit (n % 10) ∷ []
    above g =
        rw (one_there n 1000 (n / 100 / 10) g (omega arith), one_there n 100 (n / 100 % 10) (omega arith) refl, one_there n 10 (n / 10 % 10) (omega arith) refl)
        (decimal_large n (omega arith) ∙ ap (λ (x : List ℕ). (x ++ digit (n / 10 % 10) ∷ []) ++ digit (n % 10) ∷ []) (two_large (n / 100) (omega arith)))

-- ---- how long numerals and lines can be
two_few : (n : ℕ) → length (two n) ≤ 2
unfolding two
two_few n = go (ltb n 10)
  where
    go : (t : Bool) → length (cond t (digit n ∷ []) (digit (n / 10) ∷ digit (n % 10) ∷ [])) ≤ 2
    go true = omega arith
    go false = omega arith

pub decimal_few : (n : ℕ) → length (decimal n) ≤ 4
unfolding decimal
decimal_few n = go (ltb n 100)
  where
    go : (t : Bool) → length (cond t (two n) ((two (n / 100) ++ digit (n / 10 % 10) ∷ []) ++ digit (n % 10) ∷ [])) ≤ 4
    go true = omega (arith, two_few n)
    go false = omega (arith, two_few (n / 100), length-append (two (n / 100)) (digit (n / 10 % 10) ∷ []), length-append (two (n / 100) ++ digit (n / 10 % 10) ∷ []) (digit (n % 10) ∷ []))

pub decimal_some : (n : ℕ) → 1 ≤ length (decimal n)
unfolding decimal two
decimal_some n = go (ltb n 100) (ltb n 10)
  where
    go : (t u : Bool) → 1 ≤ length (cond t (cond u (digit n ∷ []) (digit (n / 10) ∷ digit (n % 10) ∷ [])) ((two (n / 100) ++ digit (n / 10 % 10) ∷ []) ++ digit (n % 10) ∷ []))
    go true true = omega arith
    go true false = omega arith
    go false u = omega (arith, length-append (two (n / 100) ++ digit (n / 10 % 10) ∷ []) (digit (n % 10) ∷ []))

pub decimal_one : (n : ℕ) → n < 10 → length (decimal n) ≡ 1
decimal_one n h = let a : n < 100 = omega arith in ap length (decimal_small n a ∙ two_small n h)

pub decimal_three : (n : ℕ) → n < 1000 → length (decimal n) ≤ 3
unfolding decimal
decimal_three n h = go (ltb n 100)
  where
    top : length (two (n / 100)) ≡ 1
    top = ap length (two_small (n / 100) (omega arith))

    go : (t : Bool) → length (cond t (two n) ((two (n / 100) ++ digit (n / 10 % 10) ∷ []) ++ digit (n % 10) ∷ [])) ≤ 3
    go true = omega (arith, two_few n)
    go false = omega (arith, top, length-append (two (n / 100)) (digit (n / 10 % 10) ∷ []), length-append (two (n / 100) ++ digit (n / 10 % 10) ∷ []) (digit (n % 10) ∷ []))

pub field_length : (n after : ℕ) → length (field n after) ≡ length (decimal n) + 1
field_length n after = length-append (decimal n) (after ∷ [])

pub field_few : (n after : ℕ) → length (field n after) ≤ 5
field_few n after = omega (arith, field_length n after, decimal_few n)

pub header_length : (a b c d : ℕ) → length (header_line a b c d) ≡ length (field a space) + length (field b space) + length (field c space) + length (field d newline)
unfolding header_line
header_length a b c d =
    omega (
      arith,
      length-append (field a space) (field b space),
      length-append (field a space ++ field b space) (field c space),
      length-append ((field a space ++ field b space) ++ field c space) (field d newline),
    )

pub line_length : (cycle sub w : ℕ) → length (word_line cycle sub w) ≡ 5 + length (field cycle space) + length (field sub newline)
unfolding word_line
line_length cycle sub w =
    omega (arith, length-append (hex w ++ space ∷ []) (field cycle space), length-append ((hex w ++ space ∷ []) ++ field cycle space) (field sub newline))

pub refused_length : (n : ℕ) → length (refused_line n) ≡ 8 + length (field n newline)
unfolding refused_line
refused_length n = length-append ((114 ∷ 101 ∷ 102 ∷ 117 ∷ []) ++ 115 ∷ 101 ∷ 100 ∷ space ∷ []) (field n newline)

pub decimal_two : (n : ℕ) → 10 ≤ n → n < 100 → length (decimal n) ≡ 2
decimal_two n l h = ap length (decimal_small n h ∙ two_large n l)

last_two : (n : ℕ) → 100 ≤ n → length (decimal n) ≡ length (two (n / 100)) + 2
last_two n h =
    ap length (decimal_large n h)
    ∙ omega (arith, length-append (two (n / 100)) (digit (n / 10 % 10) ∷ []), length-append (two (n / 100) ++ digit (n / 10 % 10) ∷ []) (digit (n % 10) ∷ []))

pub decimal_hundreds : (n : ℕ) → 100 ≤ n → n < 1000 → length (decimal n) ≡ 3
decimal_hundreds n l h = omega (arith, last_two n l, ap length (two_small (n / 100) (omega arith)))

pub decimal_four : (n : ℕ) → 1000 ≤ n → length (decimal n) ≡ 4
decimal_four n l = omega (arith, last_two n (omega arith), ap length (two_large (n / 100) (omega arith)))

pub line_is_long : (cycle sub a b : ℕ) → a ≡ length (decimal cycle) → b ≡ length (decimal sub) → a + b + 7 ≡ length (word_line cycle sub 0)
line_is_long cycle sub a b p q = omega (arith, line_length cycle sub 0, field_length cycle space, field_length sub newline)

pub ruleset digits_known = (decimal_one, decimal_two, decimal_hundreds, decimal_four)

pub ruleset line_long = line_is_long

-- ---- for a line's methods
pub decimal_pushed : (s : List ℕ) (n : ℕ) → n < 10000 → (((s ++ place n 1000) ++ place n 100) ++ place n 10) ++ digit (n % 10) ∷ [] ≡ s ++ decimal n
decimal_pushed s n h =
    ap (λ (x : List ℕ). (x ++ place n 10) ++ digit (n % 10) ∷ []) (append_assoc s (place n 1000) (place n 100))
    ∙ ap (λ (x : List ℕ). x ++ digit (n % 10) ∷ []) (append_assoc s (place n 1000 ++ place n 100) (place n 10))
    ∙ append_assoc s ((place n 1000 ++ place n 100) ++ place n 10) (digit (n % 10) ∷ [])
    ∙ ap (λ (x : List ℕ). s ++ x) (sym (decimal_places n h))

pub ruleset places_few = (length-append, place_few, decimal_pushed)

-- a line with another word in its first four digits is that word's line
pub line_set : (cycle sub w v : ℕ) (line : List ℕ) → line ≡ word_line cycle sub w → hex v ++ drop 4 line ≡ word_line cycle sub v
unfolding word_line
line_set cycle sub w v line e = ap (λ (x : List ℕ). hex v ++ drop 4 x) e

pub ruleset decimals_few = (length-append, decimal_few)

pub ruleset fields_few = (length-append, field_few)
