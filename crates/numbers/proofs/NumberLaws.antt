-- What the number at the front of some bytes is, by its bytes; and the same at a place.
-- Assumes nothing.
use Prim.Native.Nat.{ℕ, zero, suc, ◌+◌, ◌-◌, ◌*◌, ◌≤◌, ◌<◌}
use mathlib.Core.Path.{◌≡◌, refl, ap, sym, ◌∙◌}
use mathlib.Core.List.{List, [], ◌∷◌}
use mathlib.Core.Bool.{Bool, true, false}
use native.Mathlib.Omega.{arith}
use borrow.Author.Tests.{lt-ltb, le-ltb, ltb-true, ltb-false}
use lib.ListN.{length, get_or, drop_of_length-le}
use lib.Dec.{ltb}
use Rattle.refusals.specs.Told.{refusal}
use Rattle.numbers.specs.Number.{Groups, cut, whole, under, by_top, groups, bad, taken, judged, number, from, number_at}

-- where the last group is not 0, the value is not 0
abbrev Big : Groups → Type 0
Big cut = Unit {0}
Big (whole v n zero) = Unit {0}
Big (whole v n (suc z)) = 0 < v

big_one : (b : ℕ) → Big (whole b 1 b)
big_one zero = tt
big_one (suc b) = omega arith

big_under : (b : ℕ) (g : Groups) → Big g → Big (under b g)
big_under b cut h = tt
big_under b (whole v n zero) h = tt
big_under b (whole v n (suc z)) h = omega arith

big_top : (t : Bool) (b : ℕ) (g : Groups) → Big g → Big (by_top t b g)
big_top true b g h = big_one b
big_top false b g h = big_under b g h

big : (l : List ℕ) → Big (groups l)
big [] = tt
big (b ∷ l) = big_top (ltb b 128) b (groups l) (big l)

-- four groups or more are too many
too_many : (a b c : ℕ) (g : Groups) → Big g → judged (under a (under b (under c g))) ≡ bad
too_many a b c cut h = refl
too_many a b c (whole v n zero) h = simp (lt-ltb 1 (n + 1 + 1 + 1) (omega arith))
too_many a b c (whole v n (suc z)) h =
    simp (lt-ltb 65535 (a - 128 + 128 * (b - 128 + 128 * (c - 128 + 128 * v))) (omega arith))

last_group : (b : ℕ) (l : List ℕ) → b < 128 → groups (b ∷ l) ≡ whole b 1 b
last_group b l h = rw (lt-ltb b 128 h)

more_groups : (b : ℕ) (l : List ℕ) → 128 ≤ b → groups (b ∷ l) ≡ under b (groups l)
more_groups b l h = rw (le-ltb b 128 h)

fine : (v n z : ℕ) → 0 < z → v ≤ 65535 → judged (whole v n z) ≡ taken v n
fine v n zero p h = absurd (omega arith)
fine v n (suc z) p h = simp (le-ltb 65535 v h)

zeroed : (v n z : ℕ) → z ≡ 0 → 1 < n → judged (whole v n z) ≡ bad
zeroed v n zero e h = simp (lt-ltb 1 n h)
zeroed v n (suc z) e h = absurd (omega arith)

large : (v n z : ℕ) → 0 < z → 65535 < v → judged (whole v n z) ≡ bad
large v n zero p h = absurd (omega arith)
large v n (suc z) p h = simp (lt-ltb 65535 v h)

fine_one : (b : ℕ) → b < 128 → judged (whole b 1 b) ≡ taken b 1
fine_one zero h = refl
fine_one (suc b) h = fine (suc b) 1 (suc b) (omega arith) (omega arith)

pub none_left : number [] ≡ bad
unfolding number
none_left = refl

pub one_byte : (a : ℕ) (l : List ℕ) → a < 128 → number (a ∷ l) ≡ taken a 1
unfolding number
one_byte a l h = ap judged (last_group a l h) ∙ fine_one a h

module _ (a : ℕ) (m : 128 ≤ a) where
  pub cut_one : number (a ∷ []) ≡ bad
  unfolding number
  cut_one = ap judged (more_groups a [] m)

  pub zero_two : (b : ℕ) (l : List ℕ) → b ≡ 0 → number (a ∷ b ∷ l) ≡ bad
  unfolding number
  zero_two b l e =
      ap judged (more_groups a (b ∷ l) m ∙ ap (under a) (last_group b l (omega arith))) ∙ zeroed (a - 128 + 128 * b) 2 b e (omega arith)

  pub two_bytes : (b : ℕ) (l : List ℕ) → a < 256 → 0 < b → b < 128 → number (a ∷ b ∷ l) ≡ taken (a - 128 + 128 * b) 2
  unfolding number
  two_bytes b l w p h =
      ap judged (more_groups a (b ∷ l) m ∙ ap (under a) (last_group b l h)) ∙ fine (a - 128 + 128 * b) 2 b p (omega arith)

  module _ (b : ℕ) (n : 128 ≤ b) where
    both : (l : List ℕ) → groups (a ∷ b ∷ l) ≡ under a (under b (groups l))
    both l = more_groups a (b ∷ l) m ∙ ap (under a) (more_groups b l n)

    pub cut_two : number (a ∷ b ∷ []) ≡ bad
    unfolding number
    cut_two = ap judged (both [])

    pub zero_three : (c : ℕ) (l : List ℕ) → c ≡ 0 → number (a ∷ b ∷ c ∷ l) ≡ bad
    unfolding number
    zero_three c l e =
        ap judged (both (c ∷ l) ∙ ap (λ (g : Groups). under a (under b g)) (last_group c l (omega arith)))
        ∙ zeroed (a - 128 + 128 * (b - 128 + 128 * c)) 3 c e (omega arith)

    pub three_bytes : (c : ℕ) (l : List ℕ) → a < 256 → b < 256 → 0 < c → c ≤ 3 → number (a ∷ b ∷ c ∷ l) ≡ taken (a - 128 + 128 * (b - 128 + 128 * c)) 3
    unfolding number
    three_bytes c l wa wb p h =
        ap judged (both (c ∷ l) ∙ ap (λ (g : Groups). under a (under b g)) (last_group c l (omega arith)))
        ∙ fine (a - 128 + 128 * (b - 128 + 128 * c)) 3 c p (omega arith)

    pub above_three : (c : ℕ) (l : List ℕ) → 3 < c → number (a ∷ b ∷ c ∷ l) ≡ bad
    unfolding number
    above_three c l e = by_top_lem (ltb c 128) refl
      where
        by_top_lem : (t : Bool) → ltb c 128 ≡ t → judged (groups (a ∷ b ∷ c ∷ l)) ≡ bad
        by_top_lem true q =
            ap judged (both (c ∷ l) ∙ ap (λ (g : Groups). under a (under b g)) (last_group c l (ltb-true c 128 q)))
            ∙ large (a - 128 + 128 * (b - 128 + 128 * c)) 3 c (omega arith) (omega arith)
        by_top_lem false q =
            ap judged (both (c ∷ l) ∙ ap (λ (g : Groups). under a (under b g)) (more_groups c l (ltb-false c 128 q)))
            ∙ too_many a b c (groups l) (big l)

-- ---- at the front of some bytes
pub front-end : (s : List ℕ) → length s < 1 → bad ≡ number s
unfolding number
front-end [] h = refl
front-end (a ∷ s) h = absurd (omega arith)

pub front_one : (s : List ℕ) → 1 ≤ length s → get_or s 0 0 < 128 → taken (get_or s 0 0) 1 ≡ number s
front_one [] n h = absurd (omega arith)
front_one (a ∷ l) n h = sym (one_byte a l h)

pub front_cut_one : (s : List ℕ) → length s < 2 → 128 ≤ get_or s 0 0 → bad ≡ number s
front_cut_one [] n h = absurd (omega arith)
front_cut_one (a ∷ []) n h = sym (cut_one a h)
front_cut_one (a ∷ b ∷ l) n h = absurd (omega arith)

pub front_zero_two : (s : List ℕ) → 2 ≤ length s → 128 ≤ get_or s 0 0 → get_or s 1 0 ≡ 0 → bad ≡ number s
front_zero_two [] n h e = absurd (omega arith)
front_zero_two (a ∷ []) n h e = absurd (omega arith)
front_zero_two (a ∷ b ∷ l) n h e = sym (zero_two a h b l e)

pub front_two : (s : List ℕ) → 2 ≤ length s → get_or s 0 0 < 256 → 128 ≤ get_or s 0 0 → 0 < get_or s 1 0 → get_or s 1 0 < 128 → taken (get_or s 0 0 - 128 + 128 * get_or s 1 0) 2 ≡ number s
front_two [] n w h p k = absurd (omega arith)
front_two (a ∷ []) n w h p k = absurd (omega arith)
front_two (a ∷ b ∷ l) n w h p k = sym (two_bytes a h b l w p k)

pub front_cut_two : (s : List ℕ) → length s < 3 → 128 ≤ get_or s 0 0 → 128 ≤ get_or s 1 0 → bad ≡ number s
front_cut_two [] n h k = absurd (omega arith)
front_cut_two (a ∷ []) n h k = absurd (omega arith)
front_cut_two (a ∷ b ∷ []) n h k = sym (cut_two a h b k)
front_cut_two (a ∷ b ∷ c ∷ l) n h k = absurd (omega arith)

pub front_zero_three : (s : List ℕ) → 3 ≤ length s → 128 ≤ get_or s 0 0 → 128 ≤ get_or s 1 0 → get_or s 2 0 ≡ 0 → bad ≡ number s
front_zero_three [] n h k e = absurd (omega arith)
front_zero_three (a ∷ []) n h k e = absurd (omega arith)
front_zero_three (a ∷ b ∷ []) n h k e = absurd (omega arith)
front_zero_three (a ∷ b ∷ c ∷ l) n h k e = sym (zero_three a h b k c l e)

pub front_above : (s : List ℕ) → 3 ≤ length s → 128 ≤ get_or s 0 0 → 128 ≤ get_or s 1 0 → 3 < get_or s 2 0 → bad ≡ number s
front_above [] n h k e = absurd (omega arith)
front_above (a ∷ []) n h k e = absurd (omega arith)
front_above (a ∷ b ∷ []) n h k e = absurd (omega arith)
front_above (a ∷ b ∷ c ∷ l) n h k e = sym (above_three a h b k c l e)

pub front_three : (s : List ℕ) → 3 ≤ length s → get_or s 0 0 < 256 → get_or s 1 0 < 256 → 128 ≤ get_or s 0 0 → 128 ≤ get_or s 1 0 → 0 < get_or s 2 0 → get_or s 2 0 ≤ 3
    → taken (get_or s 0 0 - 128 + 128 * (get_or s 1 0 - 128 + 128 * get_or s 2 0)) 3 ≡ number s
front_three [] n wa wb h k p m = absurd (omega arith)
front_three (a ∷ []) n wa wb h k p m = absurd (omega arith)
front_three (a ∷ b ∷ []) n wa wb h k p m = absurd (omega arith)
front_three (a ∷ b ∷ c ∷ l) n wa wb h k p m = sym (three_bytes a h b k c l wa wb p m)

pub ruleset at_front = (front-end, front_one, front_cut_one, front_zero_two, front_two, front_cut_two, front_zero_three, front_above, front_three)

-- ---- past the end
pub past_end : (s : List ℕ) (at : ℕ) → length s < at → number_at s at ≡ refusal 5
unfolding number_at
past_end s at h = ap (λ (l : List ℕ). from at (number l)) (drop_of_length-le s (omega arith)) ∙ ap (from at) none_left
