-- For every set there is a truthful line, so what is said of truthful lines is said of something; and a line whose devices clear their
-- events when they are read is truthful too.
-- Assumes nothing.
use mathlib.Core.Path.{◌≡◌, refl, sym, subst}
use mathlib.Core.Bool.{Bool, true, false, not, ◌&&◌, ◌||◌}
use mathlib.Core.List.Memᴰ
use mathlib.Core.List.{List, [], ◌∷◌, Memᴰ}
use Prim.Native.Nat.{ℕ, ◌≤◌}
use native.Mathlib.Omega.{arith}
use lib.Dec.{eqb}
use borrow.Author.Tests.{eqb-true}
use Rattle.frames.specs.declared.LineAnswer.{LineAnswer}
use Rattle.frames.specs.declared.LineAnswer.TheVariants.{Silence, Reply, Collision}
use Rattle.frames.specs.Words.{word_of}
use Rattle.groups.specs.Groups.{Place, over, at}
use Rattle.groups.specs.Sets.{Member, devices, Rising}
use Rattle.groups.proofs.Follow.{Group, group_is}
use Rattle.groups.proofs.Words.{group_of, named_by}
use Rattle.groups.proofs.Members.{member, listed}
use Rattle.groups.proofs.Order.{in_order, apart, Between, low, between_member, in_range}
use Rattle.rounds.specs.Lines.{Line, run}
use Rattle.rounds.specs.Demand.{Truth, none, one, several, Truthful, read_order}
use Rattle.rounds.proofs.Events.{before_range}

abbrev answer_to : List ℕ → LineAnswer
answer_to [] = Silence
answer_to (a ∷ []) = Reply (word_of 12 a)
answer_to (a ∷ b ∷ l) = Collision

abbrev answer_at : (ℕ → Bool) → Place → LineAnswer
answer_at S over = Silence
answer_at S (at m c) = answer_to (devices S m c)

-- each word is answered by the devices of the group that it names
abbrev pub true_line : (ℕ → Bool) → Line
true_line S [] = Silence
true_line S (word ∷ sent) = answer_at S (group_of word)

answers_true : (S : ℕ → Bool) (m c : ℕ) → Group m c → (l : List ℕ) → devices S m c ≡ l → Truth S m c (answer_to l)
answers_true S m c t [] d = none (λ a r. Memᴰ.not-nil (subst (λ (k : List ℕ). Memᴰ a k) d (listed S m c t a r)))
answers_true S m c t (a ∷ []) d =
    one a (member S m c t a (subst (λ (k : List ℕ). Memᴰ a k) (sym d) (Memᴰ.head refl)))
    (λ b r. Memᴰ.eq_of_singleton (subst (λ (k : List ℕ). Memᴰ b k) d (listed S m c t b r)))
answers_true S m c t (a ∷ b ∷ l) d =
    several a b (member S m c t a (subst (λ (k : List ℕ). Memᴰ a k) (sym d) (Memᴰ.head refl)))
    (member S m c t b (subst (λ (k : List ℕ). Memᴰ b k) (sym d) (Memᴰ.tail (Memᴰ.head refl))))
    (apart 0 a b l (subst (λ (k : List ℕ). Rising 0 k) d (in_order S m c t)))

pub exists : (S : ℕ → Bool) (p : ℕ) → p ≤ 4095 → Truthful S p (true_line S)
exists S p h n m c r t e =
    let g = group_is m c t in
    subst (λ (x : Place). Truth S m c (answer_at S x)) (sym (named_by p m c h g)) (answers_true S m c g (devices S m c) refl)

-- ---- devices that clear their event at the read
abbrev is_in : ℕ → List ℕ → Bool
is_in a [] = false
is_in a (x ∷ l) = eqb a x || is_in a l

-- the events that stand after the words sent
abbrev pub uncleared : (ℕ → Bool) → List ℕ → ℕ → Bool
uncleared S sent a = S a && not (is_in a (read_order sent))

-- each word is answered by the devices of its group whose events stand
abbrev pub clearing_line : (ℕ → Bool) → Line
clearing_line S [] = Silence
clearing_line S (word ∷ sent) = answer_at (uncleared S sent) (group_of word)

is_in_lem : (a : ℕ) (l : List ℕ) → is_in a l ≡ true → Memᴰ a l
is_in_lem a [] e = absurd (let z : ◌≡◌ {A = ℕ} 0 1 = cc in omega arith)
is_in_lem a (x ∷ l) e = go (is_in_lem a l) (eqb a x) refl e
  where
    go : (is_in a l ≡ true → Memᴰ a l) → (b : Bool) → eqb a x ≡ b → (b || is_in a l) ≡ true → Memᴰ a (x ∷ l)
    go i true h k = Memᴰ.head (eqb-true _ _ h)
    go i false h k = Memᴰ.tail (i k)

module _ (S : ℕ → Bool) (m c : ℕ) (t : Group m c) (sent : List ℕ) (o : Between 0 (low m c) (read_order sent)) where
  -- no device of {M, C} was read before
  stands : (a : ℕ) → Member S m c a → uncleared S sent a ≡ true
  stands a r = go (is_in a (read_order sent)) refl
    where
      go : (b : Bool) → is_in a (read_order sent) ≡ b → (S a && not b) ≡ true
      go true e =
          let k = (between_member 0 (low m c) a (read_order sent) o (is_in_lem a (read_order sent) e)).1 in
          let j = (in_range S m c a t r).0 in
          absurd (omega arith)
      go false e = rw r.event refl

  still : (a : ℕ) → Member S m c a → Member (uncleared S sent) m c a
  still a r = record { small = r.small; event = stands a r; group = r.group }

  was : (a : ℕ) → Member (uncleared S sent) m c a → Member S m c a
  was a r = record { small = r.small; event = left (S a) _ r.event; group = r.group }
    where
      left : (x y : Bool) → (x && y) ≡ true → x ≡ true
      left true y e = refl
      left false y e = e

  -- so what stands is all that there is
  same_truth : (a : LineAnswer) → Truth (uncleared S sent) m c a → Truth S m c a
  same_truth a (none f) = none (λ b r. f b (still b r))
  same_truth a (one b r u) = one b (was b r) (λ d q. u d (still d q))
  same_truth a (several b d r q f) = several b d (was b r) (was d q) f

pub clearing : (S : ℕ → Bool) (p : ℕ) → p ≤ 4095 → Truthful S p (clearing_line S)
clearing S p h n m c r t e =
    let g = group_is m c t in
    let sent = (run (clearing_line S) p n).sent in
    same_truth S m c g sent (before_range (clearing_line S) p h n m c r g e) _
    (subst (λ (x : Place). Truth (uncleared S sent) m c (answer_at (uncleared S sent) x)) (sym (named_by p m c h g))
    (answers_true (uncleared S sent) m c g (devices (uncleared S sent) m c) refl))
