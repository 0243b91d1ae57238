-- A cycle that stands at a place of a file: its count, its words, its split numbers.
-- Assumes nothing.
use Prim.Native.Nat.{ℕ, zero, suc, ◌+◌, ◌^◌, ◌≤◌}
use mathlib.Core.Path.{◌≡◌, refl, ap, sym, ◌∙◌}
use mathlib.Core.List.{List, [], ◌∷◌, ◌++◌, append_assoc}
use native.Mathlib.Omega.{arith}
use lib.ListN.{length, drop}
use lib.Pow.{pow_mono}
use Rattle.numbers.specs.Number.{sum}
use Rattle.numbers.specs.Written.{written, Most}
use Rattle.numbers.proofs.RunLaws.{Added}
use Rattle.numbers.proofs.WrittenLaws.{written_append}
use Rattle.numbers.proofs.ThereLaws.{cut_written, sum_there}
use Rattle.list_laws.specs.Written.{All, Split}
use Rattle.list_laws.proofs.Acceptance.{words_most, small_most}
use Rattle.periods.specs.Inside.{after, CycleHere, SplitHere}
use Rattle.periods.proofs.SkipLaws.{skip_there}

-- the split numbers of a cycle that has any
splits_of : (n : ℕ) (ws zs : List ℕ) → Split n ws zs → (2 ^ n ≡ 1 → ⊥) → (length ws ≡ 0 → ⊥) → (length zs ≡ 2 ^ n) × All (λ z. z ≤ 256) zs × (sum zs ≡ length ws)
splits_of zero ws zs s h e = absurd (h refl)
splits_of (suc n) [] zs s h e = absurd (e refl)
splits_of (suc n) (w ∷ ws) zs s h e = s

no_splits : (n : ℕ) (ws zs : List ℕ) → Split n ws zs → 2 ^ n ≡ 1 → zs ≡ []
no_splits zero ws zs s e = s
no_splits (suc n) ws zs s e = absurd (omega arith)

no_words : (n : ℕ) (ws zs : List ℕ) → Split n ws zs → length ws ≡ 0 → (ws ≡ []) × (zs ≡ [])
no_words zero [] zs s e = (refl, s)
no_words (suc n) [] zs s e = (refl, s)
no_words n (w ∷ ws) zs s e = absurd (omega arith)

-- ---- a cycle with split numbers, after its count
module _ (s : List ℕ) (at count size : ℕ) (h : SplitHere s at count size) where
  pub shape : (length h.c.splits ≡ size) × All (λ z. z ≤ 256) h.c.splits × (sum h.c.splits ≡ length h.c.words)
  shape =
      let x = splits_of h.n h.c.words h.c.splits h.obeys.splits (λ e. h.later (h.power ∙ e)) (λ e. h.some (h.count_is ∙ e)) in
      (x.0 ∙ sym h.power, x.1, x.2)

  pub splits_most : Most h.c.splits
  splits_most = small_most h.c.splits shape.1

  pub all_words_most : Most h.c.words
  all_words_most = words_most h.c.words h.obeys.words

  pub size_small : size ≤ 1024
  size_small = let b : 2 ^ h.n ≤ 2 ^ 10 = pow_mono h.small in omega (arith, h.power)

  pub after_words_lem : (total next : ℕ) → Added s at count total next → drop next s ≡ written h.c.splits ++ h.rest
  after_words_lem total next a = (sum_there s h.c.words (written h.c.splits ++ h.rest) at all_words_most h.bytes count total next h.count_is a).1

  -- the same where they are not added up
  pub past_words : (next : ℕ) → next ≡ at + after count (drop at s) → drop next s ≡ written h.c.splits ++ h.rest
  past_words next e = skip_there s h.c.words (written h.c.splits ++ h.rest) at all_words_most h.bytes count next h.count_is e

-- ---- any cycle
module _ (s : List ℕ) (at size : ℕ) (h : CycleHere s at size) (count p : ℕ) (a : Added s at 1 count p) where
  pub count_there : (count ≡ length h.c.words) × (drop p s ≡ written h.c.words ++ (written h.c.splits ++ h.rest))
  count_there =
      let ws : List ℕ = h.c.words in
      let zs : List ℕ = h.c.splits in
      let e : drop at s ≡ written (length ws ∷ []) ++ (written (ws ++ zs) ++ h.rest) = h.bytes ∙ cut_written 1 (length ws ∷ (ws ++ zs)) h.rest in
      let x = sum_there s (length ws ∷ []) (written (ws ++ zs) ++ h.rest) at (omega (arith, h.obeys.count), tt) e 1 count p refl a in
      (omega (arith, x.0), x.1 ∙ ap (λ (l : List ℕ). l ++ h.rest) (written_append ws zs) ∙ append_assoc (written ws) (written zs) h.rest)

  pub count_small : count ≤ 256
  count_small = omega (arith, count_there.0, h.obeys.count)

  -- cycle 1
  pub no_split : size ≡ 1 → h.c.splits ≡ []
  no_split one = no_splits h.n h.c.words h.c.splits h.obeys.splits (sym h.power ∙ one)

  pub only_words : size ≡ 1 → drop p s ≡ written h.c.words ++ h.rest
  only_words one = count_there.1 ∙ ap (λ (x : List ℕ). written h.c.words ++ (written x ++ h.rest)) (no_split one)

  -- a cycle without words
  pub no_word : count ≡ 0 → (h.c.words ≡ []) × (h.c.splits ≡ [])
  no_word z = no_words h.n h.c.words h.c.splits h.obeys.splits (sym count_there.0 ∙ z)

  pub nothing_here : count ≡ 0 → drop p s ≡ h.rest
  nothing_here z = let w = no_word z in count_there.1 ∙ ap (λ (x : List ℕ). written x ++ (written h.c.splits ++ h.rest)) w.0 ∙ ap (λ (x : List ℕ). written x ++ h.rest) w.1

  -- any other
  abbrev pub split_here : (size ≡ 1 → ⊥) → (count ≡ 0 → ⊥) → SplitHere s p count size
  split_here o z =
      record {
        n = h.n;
        c = h.c;
        rest = h.rest;
        small = h.small;
        power = h.power;
        obeys = h.obeys;
        later = o;
        count_is = count_there.0;
        some = z;
        bytes = count_there.1;
      }
