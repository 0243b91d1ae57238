-- The device that a group has alone, from half to half.
-- Assumes nothing.
use mathlib.Core.Path.{◌≡◌, refl, sym, ap, ◌∙◌, subst}
use mathlib.Core.Bool.{Bool, true, false, cond}
use mathlib.Core.List.{List, [], ◌∷◌, ◌++◌, append-nil}
use Prim.Native.Nat.{ℕ, zero, suc, ◌+◌, ◌-◌, ◌*◌, ◌^◌, ◌≤◌, ◌<◌}
use native.Mathlib.Omega.{arith}
use lib.Dec.{leb}
use lib.ListN.{length, length-append}
use borrow.Author.Tests.{leb-true, leb-false}
use Rattle.groups.specs.Groups.{is_group}
use Rattle.groups.specs.Sets.{devices}
use Rattle.groups.proofs.Follow.{is_group_lem, group_is, in_lower, in_upper}
use Rattle.groups.proofs.Costs.{halved}
use Rattle.groups.proofs.Powers.{doubled}
use Rattle.search.specs.Inside.{mark_of}

-- the mark of {M, C} from the offset of the upper half of {M+1, C}
pub offset_mark : (m c h : ℕ) → m ≤ 11 → h ≡ 2 ^ (12 - (m + 1)) → 2 * h + c ≡ mark_of m c
offset_mark m c h t e =
    let d : 12 - m ≡ suc (12 - (m + 1)) = omega arith in
    let p : 2 ^ (12 - m) ≡ 2 ^ (12 - (m + 1)) + 2 ^ (12 - (m + 1)) = ap (λ (i : ℕ). 2 ^ i) d ∙ doubled (12 - (m + 1)) in
    omega arith

-- the half that has it, from that offset and the bit of the lower half
pub offset_half : (c h bit x : ℕ) (lower : Bool) → bit ≡ cond lower 1 0 → x ≡ h * bit → c + h - x ≡ cond lower c (c + h)
offset_half c h bit x true e f = let y : x ≡ h * 1 = f ∙ ap (λ (n : ℕ). h * n) e in omega arith
offset_half c h bit x false e f = let y : x ≡ h * 0 = f ∙ ap (λ (n : ℕ). h * n) e in omega arith

-- of two lists, with one device together, the first that has one
split : (l k : List ℕ) (b : Bool) → leb 1 (length l) ≡ b → length (l ++ k) ≡ 1 → cond b l k ≡ l ++ k
split l k false e h = go l (leb-false 1 (length l) e)
  where
    go : (l : List ℕ) → length l < 1 → k ≡ l ++ k
    go [] h = refl
    go (a ∷ l) h = absurd (omega arith)
split l k true e h = go k (let t = leb-true 1 (length l) e in omega (arith, length-append l k))
  where
    go : (k : List ℕ) → length k < 1 → l ≡ l ++ k
    go [] h = sym (append-nil l)
    go (a ∷ k) h = absurd (omega arith)

module _ (S : ℕ → Bool) where
  -- the half that has it
  abbrev HasIt : ℕ → ℕ → ℕ → ℕ → Type 0
  HasIt k h m c = (is_group k h ≡ true) × (devices S k h ≡ devices S m c)

  in_half : (k c : ℕ) → is_group (suc k) c ≡ true → length (devices S (suc k) c) ≡ 1 → HasIt k (cond (leb 1 (length (devices S k c))) c (c + 2 ^ (12 - suc k))) (suc k) c
  in_half k c g one = go (leb 1 (length (devices S k c))) refl
    where
      go : (b : Bool) → leb 1 (length (devices S k c)) ≡ b → HasIt k (cond b c (c + 2 ^ (12 - suc k))) (suc k) c
      go true e =
          let s = split (devices S k c) (devices S k (c + 2 ^ (12 - suc k))) true e (sym (ap length (halved S k c)) ∙ one) in
          (is_group_lem k c (in_lower k c (group_is (suc k) c g)), s ∙ sym (halved S k c))
      go false e =
          let s = split (devices S k c) (devices S k (c + 2 ^ (12 - suc k))) false e (sym (ap length (halved S k c)) ∙ one) in
          (is_group_lem k _ (in_upper k c (group_is (suc k) c g)), s ∙ sym (halved S k c))

  half_of : (k m c : ℕ) → m ≡ suc k → is_group m c ≡ true → length (devices S m c) ≡ 1 → HasIt k (cond (leb 1 (length (devices S k c))) c (c + 2 ^ (11 - k))) m c
  half_of k m c e g one =
      let f : 12 - suc k ≡ 11 - k = omega arith in
      rw e (subst (λ (i : ℕ). HasIt k (cond (leb 1 (length (devices S k c))) c (c + 2 ^ i)) (suc k) c) f
      (in_half k c (subst (λ (i : ℕ). is_group i c ≡ true) e g) (subst (λ (i : ℕ). length (devices S i c) ≡ 1) e one)))

  module _ (m c : ℕ) (h : 0 < m) (g : is_group m c ≡ true) where
    -- the lower half is a group
    pub lower_group : (m - 1 ≤ 11) × (is_group (m - 1) c ≡ true)
    lower_group =
        let e : m ≡ suc (m - 1) = omega arith in
        let t = group_is (suc (m - 1)) c (subst (λ (i : ℕ). is_group i c ≡ true) e g) in
        (omega (arith, t.0), is_group_lem (m - 1) c (in_lower (m - 1) c t))

    pub half_has_it : length (devices S m c) ≡ 1 → (x : ℕ) → x ≡ cond (leb 1 (length (devices S (m - 1) c))) c (c + 2 ^ (11 - (m - 1))) → HasIt (m - 1) x m c
    half_has_it one x q = rw q (half_of (m - 1) m c (omega arith) g one)

  -- a device alone
  pub single : (k c : ℕ) → k ≡ 0 → is_group k c ≡ true → length (devices S k c) ≡ 1 → (devices S k c ≡ c ∷ []) × (c < 4096)
  unfolding devices
  single zero c e g h = (go (S c) h, (group_is 0 c g).1)
    where
      go : (b : Bool) → length (cond b (c ∷ []) []) ≡ 1 → cond b (c ∷ []) [] ≡ c ∷ []
      go true h = refl
      go false h = absurd (omega arith)
  single (suc k) c e g h = absurd (omega arith)
