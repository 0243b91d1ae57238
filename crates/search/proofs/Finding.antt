-- What the search of a group finds: one request settles it, or both halves are searched.
-- Assumes nothing.
use mathlib.Core.Path.{◌≡◌, refl, sym, ap, ◌∙◌, subst}
use mathlib.Core.Bool.{Bool, true, false, cond}
use mathlib.Core.List.{List, [], ◌∷◌, ◌++◌, append-nil, append_assoc, Memᴰ}
use Prim.Native.Nat.{ℕ, zero, suc, ◌+◌, ◌-◌, ◌%◌, ◌^◌, ◌≤◌}
use native.Mathlib.Omega.{arith}
use lib.ListN.{length, length-append, length-drop, set, take, drop}
use lib.Pow.{pow_mono}
use lib.Seq.{take_all, take_at, drop_at, drop-drop}
use Rattle.std.proofs.lemmas.List.{drop_all}
use borrow.Author.Tests.{eq-eqb, le-ltb}
use Rattle.refusals.specs.Told.{gives}
use Rattle.frames.specs.declared.LineAnswer.TheVariants.{Silence, Reply, Collision}
use Rattle.frames.specs.Words.{word_of}
use Rattle.groups.specs.Groups.{is_group}
use Rattle.groups.specs.Sets.{devices, how_many}
use Rattle.groups.specs.Search.{search_of}
use Rattle.groups.proofs.Follow.{is_group_lem, group_is, in_lower, in_upper}
use Rattle.groups.proofs.Members.{member}
use Rattle.groups.proofs.Counting.{set_count}
use Rattle.groups.proofs.Costs.{finds, devices_few, requests_few, once, collided, halved}
use Rattle.search.specs.declared.Found.{Found}
use Rattle.search.specs.Searches.{in_set, searched, written}
use Rattle.search.specs.Told.{requests_and_reads}
use Rattle.search.specs.Inside.{answer_to, Finds}

-- ---- what a group answered
none_there : (l : List ℕ) → answer_to l ≡ Silence → l ≡ []
none_there [] h = refl
none_there (a ∷ []) h = cc
none_there (a ∷ b ∷ l) h = cc

one_there : (l : List ℕ) (w : ℕ) → answer_to l ≡ Reply w → (a : ℕ) × (l ≡ a ∷ []) × (w ≡ word_of 12 a)
one_there [] w h = absurd (let z : ◌≡◌ {A = ℕ} 0 1 = cc in omega arith)
one_there (a ∷ []) w h = (a, refl, cc)
one_there (a ∷ b ∷ l) w h = absurd (let z : ◌≡◌ {A = ℕ} 0 1 = cc in omega arith)

pub more_there : (l : List ℕ) → answer_to l ≡ Collision → 2 ≤ length l
more_there [] h = absurd (let z : ◌≡◌ {A = ℕ} 0 1 = cc in omega arith)
more_there (a ∷ []) h = absurd (let z : ◌≡◌ {A = ℕ} 0 1 = cc in omega arith)
more_there (a ∷ b ∷ l) h = omega arith

no_devices : (l : List ℕ) → length l ≡ 0 → Silence ≡ answer_to l
no_devices [] h = refl
no_devices (a ∷ l) h = absurd (omega arith)

-- ---- one request settles it
first_set : (out : List ℕ) (a : ℕ) → 1 ≤ length out → set out 0 a ≡ a ∷ drop 1 out
first_set [] a h = absurd (omega arith)
first_set (x ∷ out) a h = refl

module _ (S : ℕ → Bool) (m c : ℕ) (out : List ℕ) where
  pub found_none : Silence ≡ answer_to (devices S m c) → Finds S m c out (record { requests = 1; reads = 0 }) out
  found_none e =
      let l : devices S m c ≡ [] = none_there (devices S m c) (sym e) in
      let n : length (devices S m c) ≡ 0 = ap length l in
      record { asked = sym (once S m c (omega arith)); read = omega arith; wrote = rw l refl }

  pub found_one : (w : ℕ) → Reply w ≡ answer_to (devices S m c) → is_group m c ≡ true → length (devices S m c) ≤ length out → Finds S m c out (record { requests = 1; reads = 1 }) (set out 0 (w % 4096))
  found_one w e g r =
      let (x, l, q) = one_there (devices S m c) w (sym e) in
      let n : length (devices S m c) ≡ 1 = ap length l in
      let s = (member S m c (group_is m c g) x (subst (λ (k : List ℕ). Memᴰ x k) (sym l) (Memᴰ.head refl))).small in
      let v : w % 4096 ≡ x = omega (arith, q) in
      record { asked = sym (once S m c (omega arith)); read = sym n; wrote = first_set out (w % 4096) (omega arith) ∙ rw (l, v) refl }

-- ---- a collision: both halves
-- what the lower half wrote, and behind it the upper half
joined : (l h out : List ℕ) (r k : ℕ) → length l ≡ r → length (l ++ drop (length l) out) - r ≡ k →
    take r (l ++ drop (length l) out) ++ ((h ++ drop (length h) (take k (drop r (l ++ drop (length l) out)))) ++ drop k (drop r (l ++ drop (length l) out))) ≡ (l ++ h) ++ drop (length (l ++ h)) out
joined l h out r k e f =
    let d : drop r (l ++ drop (length l) out) ≡ drop (length l) out = drop_at l (drop (length l) out) r e in
    let n : length (drop (length l) out) ≡ k = omega (arith, length-append l (drop (length l) out)) in
    rw (d, take_at l (drop (length l) out) r e, take_all k (drop (length l) out) (omega arith), drop_all k (drop (length l) out) (omega arith), append-nil (h ++ drop (length h) (drop (length l) out)), drop-drop (length h) (length l) out, length-append l h)
    (sym (append_assoc l h (drop (length l + length h) out)))

module _ (S : ℕ → Bool) (m c : ℕ) (g : is_group m c ≡ true) (two : 2 ≤ length (devices S m c)) where
  -- a single device does not collide with itself
  pub has_halves : 1 ≤ m
  has_halves = go m (devices_few S m c)
    where
      go : (i : ℕ) → length (devices S m c) ≤ 2 ^ i → 1 ≤ i
      go zero l = absurd (omega (arith, two))
      go (suc n) l = omega arith

  -- both halves are groups; its devices and its requests are those of both
  pub record Halves (n h : ℕ) : Type 0 where
    pub lower : is_group n c ≡ true
    pub upper : is_group n (c + h) ≡ true
    pub order : devices S m c ≡ devices S n c ++ devices S n (c + h)
    pub asked : (search_of S m c).requests ≡ 1 + ((search_of S n c).requests + (search_of S n (c + h)).requests)

  pub halves : (h : ℕ) → h ≡ 2 ^ (12 - m) → Halves (m - 1) h
  halves h p =
      let n = m - 1 in
      let q : m ≡ suc n = omega (arith, has_halves) in
      let t = group_is (suc n) c (subst (λ (i : ℕ). is_group i c ≡ true) q g) in
      let r : h ≡ 2 ^ (12 - suc n) = subst (λ (i : ℕ). h ≡ 2 ^ (12 - i)) q p in
      record {
        lower = is_group_lem n c (in_lower n c t);
        upper = subst (λ (i : ℕ). is_group n (c + i) ≡ true) (sym r) (is_group_lem n _ (in_upper n c t));
        order = subst (λ (i : ℕ). devices S i c ≡ devices S n c ++ devices S n (c + h)) (sym q) (subst (λ (i : ℕ). devices S (suc n) c ≡ devices S n c ++ devices S n (c + i)) (sym r) (halved S n c));
        asked = subst (λ (i : ℕ). (search_of S i c).requests ≡ 1 + ((search_of S n c).requests + (search_of S n (c + h)).requests)) (sym q)
            (subst (λ (i : ℕ). (search_of S (suc n) c).requests ≡ 1 + ((search_of S n c).requests + (search_of S n (c + i)).requests)) (sym r)
            (collided S n c (subst (λ (i : ℕ). 2 ≤ length (devices S i c)) q two)));
      }

  module _ (out : List ℕ) (room : length (devices S m c) ≤ length out) (h : ℕ) (p : h ≡ 2 ^ (12 - m)) where
    both : length (devices S m c) ≡ length (devices S (m - 1) c) + length (devices S (m - 1) (c + h))
    both = ap length (halves h p).order ∙ length-append (devices S (m - 1) c) (devices S (m - 1) (c + h))

    pub room_low : length (devices S (m - 1) c) ≤ length out
    room_low = omega (arith, both)

    module _ {low : Found} {out₁ : List ℕ} (x : Finds S (m - 1) c out low out₁) where
      pub room_high : length (devices S (m - 1) (c + h)) ≤ length (take (length out₁ - low.reads) (drop low.reads out₁))
      room_high =
          let n : length out₁ ≡ length out = ap length x.wrote ∙ length-append (devices S (m - 1) c) _ ∙ omega (arith, both, length-drop (length (devices S (m - 1) c)) out) in
          let t : take (length out₁ - low.reads) (drop low.reads out₁) ≡ drop low.reads out₁ = take_all (length out₁ - low.reads) (drop low.reads out₁) (omega (arith, length-drop low.reads out₁)) in
          rw t (omega (arith, both, x.read, length-drop low.reads out₁))

      module _ {high : Found} {out₂ : List ℕ} (y : Finds S (m - 1) (c + h) (take (length out₁ - low.reads) (drop low.reads out₁)) high out₂) where
        pub found_both : Finds S m c out (record { requests = 1 + (low.requests + high.requests); reads = low.reads + high.reads }) (take low.reads out₁ ++ (out₂ ++ drop (length out₁ - low.reads) (drop low.reads out₁)))
        found_both =
            let s = halves h p in
            record {
              asked = omega (arith, s.asked, x.asked, y.asked);
              read = omega (arith, both, x.read, y.read);
              wrote = rw (y.wrote, x.wrote) (joined (devices S (m - 1) c) (devices S (m - 1) (c + h)) out low.reads _ (sym x.read) refl) ∙ ap (λ (l : List ℕ). l ++ drop (length l) out) (sym s.order);
            }

        -- so many requests and reads fit their numbers
        pub found_few : (1 + (low.requests + high.requests) ≤ 8191) × (low.reads + high.reads ≤ 4096)
        found_few =
            let t = (group_is m c g).0 in
            let u : 2 ^ suc m ≤ 2 ^ 13 = pow_mono {j = 13} (omega arith) in
            let v : 2 ^ m ≤ 2 ^ 12 = pow_mono {j = 12} (omega arith) in
            let w = found_both in
            (omega (arith, w.asked, requests_few S m c), omega (arith, w.read, devices_few S m c))

-- ---- a group of two devices, and both have an event
first_two_set : (out : List ℕ) (a b : ℕ) → 2 ≤ length out → set (set out 0 a) 1 b ≡ a ∷ b ∷ drop 2 out
first_two_set [] a b h = absurd (omega arith)
first_two_set (x ∷ []) a b h = absurd (omega arith)
first_two_set (x ∷ y ∷ out) a b h = refl

module _ (S : ℕ → Bool) (m c : ℕ) (one : m ≡ 1) (g : is_group m c ≡ true) (two : 2 ≤ length (devices S m c)) where
  both_there : (i : ℕ) → i ≡ 1 → 2 ≤ length (devices S i c) → (devices S i c ≡ c ∷ (c + 2048) ∷ []) × ((search_of S i c).requests ≡ 3)
  unfolding devices search_of
  both_there zero e h = absurd (omega arith)
  both_there (suc zero) e h = (go (S c) (S (c + 2048)) h, collided S 0 c h)
    where
      go : (a b : Bool) → 2 ≤ length (cond a (c ∷ []) [] ++ cond b ((c + 2048) ∷ []) []) → cond a (c ∷ []) [] ++ cond b ((c + 2048) ∷ []) [] ≡ c ∷ (c + 2048) ∷ []
      go true true n = refl
      go true false n = absurd (omega arith)
      go false true n = absurd (omega arith)
      go false false n = absurd (omega arith)
  both_there (suc (suc i)) e h = absurd (omega arith)

  pub found_pair : (out : List ℕ) → length (devices S m c) ≤ length out → Finds S m c out (record { requests = 3; reads = 2 }) (set (set out 0 c) 1 (c + 2048))
  found_pair out r =
      let (d, q) = both_there m one two in
      record { asked = sym q; read = sym (ap length d); wrote = first_two_set out c (c + 2048) (omega arith) ∙ rw d refl }

-- ---- the search of the set
-- there is a place for each of its devices, also where it goes by another name
pub set_room : (bytes out : List ℕ) → how_many (in_set bytes) 4096 ≤ length out → (marked : List ℕ) → marked ≡ bytes → length (devices (in_set marked) 12 0) ≤ length out
set_room bytes out l marked e = rw e (omega (arith, set_count (in_set bytes)))

module _ (bytes out : List ℕ) (h : length bytes ≡ 512) where
  pub set_done : how_many (in_set bytes) 4096 ≤ length out → {found : Found} {out₁ : List ℕ} → Finds (in_set bytes) 12 0 out found out₁ →
      (gives (requests_and_reads found) ≡ searched bytes (length out)) × (out₁ ≡ written bytes out)
  unfolding searched written
  set_done l f =
      let o = finds (in_set bytes) 12 0 in
      (simp (eq-eqb _ _ h, le-ltb _ _ l) (rw (f.asked, f.read, o) refl), simp (eq-eqb _ _ h, le-ltb _ _ l) (rw o f.wrote))

  -- an empty set takes one request
  pub set_empty : how_many (in_set bytes) 4096 ≡ 0 → (gives (1 ∷ 0 ∷ []) ≡ searched bytes (length out)) × (out ≡ written bytes out)
  set_empty z =
      let n : length (devices (in_set bytes) 12 0) ≡ 0 = set_count (in_set bytes) ∙ z in
      set_done (omega arith) (found_none (in_set bytes) 12 0 out (no_devices (devices (in_set bytes) 12 0) n))
