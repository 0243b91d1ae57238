-- On a truthful line a round reads just the devices of the set, in the order and after as many requests as the search.
-- Assumes nothing.
use mathlib.Core.Path.{◌≡◌, refl, sym, ap, ◌∙◌, subst}
use mathlib.Core.Bool.{Bool, true, false}
use mathlib.Core.List.Memᴰ
use mathlib.Core.List.{List, [], ◌∷◌, ◌++◌, Memᴰ, append-nil, append_assoc}
use Prim.Native.Nat.{ℕ, zero, suc, ◌+◌, ◌-◌, ◌*◌, ◌/◌, ◌%◌, ◌^◌, ◌≤◌, ◌<◌}
use native.Mathlib.Omega.{arith}
use native.Mathlib.Nat.{zero-add}
use lib.Dec.{lit≤}
use lib.ListN.{length, length-append}
use borrow.Author.Tests.{eq-eqb}
use Rattle.std.specs.Prelude.{Ok}
use Rattle.frames.specs.declared.LineAnswer.{LineAnswer}
use Rattle.frames.specs.declared.LineAnswer.TheVariants.{Reply}
use Rattle.frames.specs.Words.{f_code_of, address, word_of}
use Rattle.groups.specs.Groups.{in_group, group_word, request_word, Place, after, follows}
use Rattle.groups.specs.Sets.{Member, devices, Rising}
use Rattle.groups.specs.Search.{search_of}
use Rattle.groups.proofs.Follow.{Group, is_group_lem, in_lower, in_upper, lower, upper, never_itself}
use Rattle.groups.proofs.Words.{request_part}
use Rattle.groups.proofs.Members.{member, listed}
use Rattle.groups.proofs.Order.{in_order, apart}
use Rattle.groups.proofs.Counting.{set_count}
use Rattle.groups.proofs.Costs.{finds, cost, devices_few, once, collided, halved}
use Rattle.rounds.specs.declared.Phase.TheVariants.{Asked, Ended}
use Rattle.rounds.specs.declared.Step.TheVariants.{Next}
use Rattle.rounds.specs.Rounds.{Verdict, nobody, named, unclear, judge, stand, round, Handed}
use Rattle.rounds.specs.Lines.{Line, History, on_line, begun, is_read}
use Rattle.rounds.specs.Walks.{Seen, asked, read, Walk, silence, reply, again, halves, single, Reaches, here, asking, Room}
use Rattle.rounds.specs.Demand.{Truth, none, one, several, Truthful, read_order, AllRead}
use Rattle.rounds.proofs.Heart.{Fits, beyond, one_step, reached, grows, first, heart, room_most}
use Rattle.rounds.proofs.Events.{asks}
use Rattle.rounds.proofs.Any.{hearing_on, nothing, top, started, all, walk, all_few, final}

-- ---- what is heard tells which devices there are
abbrev verdict_of : List ℕ → Verdict
verdict_of [] = nobody
verdict_of (a ∷ []) = named (word_of 12 a)
verdict_of (a ∷ b ∷ l) = unclear

heard_none : (l : List ℕ) → verdict_of l ≡ nobody → l ≡ []
heard_none [] e = refl
heard_none (a ∷ []) e = cc
heard_none (a ∷ b ∷ l) e = cc

heard_one : (l : List ℕ) (x : ℕ) → verdict_of l ≡ named x → (a : ℕ) × (l ≡ a ∷ []) × (x ≡ word_of 12 a)
heard_one [] x e = absurd (let z : ◌≡◌ {A = ℕ} 0 1 = cc in omega arith)
heard_one (a ∷ []) x e = (a, refl, cc)
heard_one (a ∷ b ∷ l) x e = absurd (let z : ◌≡◌ {A = ℕ} 0 1 = cc in omega arith)

heard_many : (l : List ℕ) → verdict_of l ≡ unclear → 2 ≤ length l
heard_many [] e = absurd (let z : ◌≡◌ {A = ℕ} 0 1 = cc in omega arith)
heard_many (a ∷ []) e = absurd (let z : ◌≡◌ {A = ℕ} 0 1 = cc in omega arith)
heard_many (a ∷ b ∷ l) e = omega arith

named_right : (m c a : ℕ) → a < 4096 → in_group m c a ≡ true → judge m c (Reply (word_of 12 a)) ≡ named (word_of 12 a)
named_right m c a h g =
    let e : f_code_of (word_of 12 a) ≡ 12 = omega arith in
    let e₂ : address (word_of 12 a) ≡ a = omega arith in
    rw (e, e₂) (simp g)

module _ (S : ℕ → Bool) (m c : ℕ) (t : Group m c) where
  told_none : ((a : ℕ) → Member S m c a → ⊥) → (l : List ℕ) → devices S m c ≡ l → nobody ≡ verdict_of l
  told_none f [] d = refl
  told_none f (a ∷ l) d = absurd (f a (member S m c t a (subst (λ (k : List ℕ). Memᴰ a k) (sym d) (Memᴰ.head refl))))

  two_listed : (x y : ℕ) (k : List ℕ) → devices S m c ≡ x ∷ y ∷ k → Member S m c x × Member S m c y × (x ≡ y → ⊥)
  two_listed x y k d = (
    member S m c t x (subst (λ (l : List ℕ). Memᴰ x l) (sym d) (Memᴰ.head refl)),
    member S m c t y (subst (λ (l : List ℕ). Memᴰ y l) (sym d) (Memᴰ.tail (Memᴰ.head refl))),
    apart 0 x y k (subst (λ (l : List ℕ). Rising 0 l) d (in_order S m c t)),
  )

  told_one : (a : ℕ) → Member S m c a → ((b : ℕ) → Member S m c b → b ≡ a) → (l : List ℕ) → devices S m c ≡ l → named (word_of 12 a) ≡ verdict_of l
  told_one a r u [] d = absurd (Memᴰ.not-nil (subst (λ (k : List ℕ). Memᴰ a k) d (listed S m c t a r)))
  told_one a r u (x ∷ []) d = let e : a ≡ x = Memᴰ.eq_of_singleton (subst (λ (k : List ℕ). Memᴰ a k) d (listed S m c t a r)) in rw e refl
  told_one a r u (x ∷ y ∷ k) d = let two = two_listed x y k d in absurd (two.2 (u x two.0 ∙ sym (u y two.1)))

  told_many : (a b : ℕ) → Member S m c a → Member S m c b → (a ≡ b → ⊥) → (l : List ℕ) → devices S m c ≡ l → unclear ≡ verdict_of l
  told_many a b r q f [] d = absurd (Memᴰ.not-nil (subst (λ (k : List ℕ). Memᴰ a k) d (listed S m c t a r)))
  told_many a b r q f (x ∷ []) d =
      let e : a ≡ x = Memᴰ.eq_of_singleton (subst (λ (k : List ℕ). Memᴰ a k) d (listed S m c t a r)) in
      let g : b ≡ x = Memᴰ.eq_of_singleton (subst (λ (k : List ℕ). Memᴰ b k) d (listed S m c t b q)) in
      absurd (f (e ∙ sym g))
  told_many a b r q f (x ∷ y ∷ k) d = refl

  pub truth_heard : (a : LineAnswer) → Truth S m c a → judge m c a ≡ verdict_of (devices S m c)
  truth_heard a (none f) = told_none f (devices S m c) refl
  truth_heard a (one b r u) = named_right m c b r.small r.group ∙ told_one b r u (devices S m c) refl
  truth_heard a (several b d r q f) = told_many b d r q f (devices S m c) refl

-- ---- q requests more, and the devices of l read
record Reads (q : ℕ) (l : List ℕ) (s t : Seen) : Type 0 where
  asked_for : t.counts.requests ≡ s.counts.requests + q
  order : read_order t.sent ≡ read_order s.sent ++ l
  read_all : t.counts.reads ≡ s.counts.reads + length l
  clear : t.counts.unresolved ≡ s.counts.unresolved

reads_none : (w : ℕ) (s : Seen) → is_read w ≡ false → Reads 1 [] s (asked w s)
reads_none w s n = record { asked_for = refl; order = simp n; read_all = omega arith; clear = refl }

reads_one : (a w : ℕ) (s : Seen) → is_read w ≡ false → a < 4096 → Reads 1 (a ∷ []) s (read (word_of 12 a) (asked w s))
reads_one a w s n h =
    let e : f_code_of (word_of 12 a) ≡ 12 = omega arith in
    let e₂ : address (word_of 12 a) ≡ a = omega arith in
    record { asked_for = refl; order = rw (e, e₂) (simp (n, append-nil)); read_all = refl; clear = refl }

reads_just : (q a w x : ℕ) (l : List ℕ) (s : Seen) → is_read w ≡ false → a < 4096 → q ≡ 1 → l ≡ a ∷ [] → x ≡ word_of 12 a → Reads q l s (read x (asked w s))
reads_just q a w x l s n h e₁ e₂ e₃ = rw (e₁, e₂, e₃) (reads_one a w s n h)

reads_both : (q₁ q₂ w : ℕ) (l₁ l₂ : List ℕ) (s t u : Seen) → is_read w ≡ false → Reads q₁ l₁ (asked w s) t → Reads q₂ l₂ t u → Reads (1 + (q₁ + q₂)) (l₁ ++ l₂) s u
reads_both q₁ q₂ w l₁ l₂ s t u n a b =
    let a₁ = a.asked_for in
    let b₁ = b.asked_for in
    let a₂ = a.read_all in
    let b₂ = b.read_all in
    let o = (reads_none w s n).order in
    record {
      asked_for = omega arith;
      order = b.order ∙ ap (λ (x : List ℕ). x ++ l₂) a.order ∙ append_assoc (read_order (w ∷ s.sent)) l₁ l₂ ∙ ap (λ (x : List ℕ). x ++ (l₁ ++ l₂)) (o ∙ append-nil (read_order s.sent));
      read_all = simp length-append (omega arith);
      clear = b.clear ∙ a.clear;
    }

-- ---- the walk on a truthful line
module _ (S : ℕ → Bool) (p : ℕ) (h : p ≤ 4095) (line : Line) (truth : Truthful S p line) where
  abbrev There : History → Type 0
  There x = Reaches (on_line line) (begun p) x

  judged : (m c w : ℕ) (s : Seen) → Group m c → w ≡ request_word p m c → There (asking m c w s) → judge m c (line (w ∷ s.sent)) ≡ verdict_of (devices S m c)
  judged m c w s t e r =
      let n = reached r in
      let l = ap (λ (x : History). x.last) n.1 ∙ ap (λ (x : ℕ). let n : Handed = Ok (Next (round Asked m c s.counts) x) in n) e in
      let x = truth n.0 m c (round Asked m c s.counts) (is_group_lem m c t) l in
      rw e (truth_heard S m c t (line (request_word p m c ∷ s.sent)) (subst (λ (y : History). Truth S m c (line (request_word p m c ∷ y.sent))) n.1 x))

  small : (m c a : ℕ) (l : List ℕ) → Group m c → devices S m c ≡ a ∷ l → a < 4096
  small m c a l t d = (member S m c t a (subst (λ (k : List ℕ). Memᴰ a k) (sym d) (Memᴰ.head refl))).small

  no_read : (m c w : ℕ) → Group m c → w ≡ request_word p m c → is_read w ≡ false
  no_read m c w g q = subst (λ (x : ℕ). is_read x ≡ false) (sym q) (asks p m c h g).no_read

  abbrev Copper : ℕ → ℕ → ℕ → Seen → Seen → Type 0
  Copper m c w s t = Walk (hearing_on line) follows m c w s t

  told : {m c w : ℕ} {s t : Seen} → Copper m c w s t → Group m c → w ≡ request_word p m c → There (asking m c w s) → Fits s.counts →
      Room 8190 (follows m c) t.counts.requests → Reads (search_of S m c).requests (devices S m c) s t
  told {m} {c} {w} {s} (silence e) g q r f l =
      let d : devices S m c ≡ [] = heard_none (devices S m c) (sym (judged m c w s g q r) ∙ e) in
      let k = once S m c (rw d (lit≤ tt)) in
      rw (k, d) (reads_none w s (no_read m c w g q))
  told {m} {c} {w} {s} (reply {x = x} e b) g q r f l =
      let o = heard_one (devices S m c) x (sym (judged m c w s g q r) ∙ e) in
      let k = once S m c (rw o.1 (lit≤ tt)) in
      reads_just _ o.0 w x _ s (no_read m c w g q) (small m c o.0 [] g o.1) k o.1 o.2
  told {m} {c} (again e b a) g q r f l = absurd (never_itself m c g b)
  told (halves {m = m} {c = c} {word = w} {s = s} {t = t} {u = u} e a b) g q r f l =
      let d = c + 2 ^ (12 - suc m) in
      let n = heard_many (devices S (suc m) c) (sym (judged (suc m) c w s g q r) ∙ e) in
      let x = grows 8190 follows (hearing_on line) a (omega arith) in
      let y = grows 8190 follows (hearing_on line) b x.1 in
      let z = room_most 8190 follows (follows (suc m) c) u.counts.requests l in
      let x₀ = x.0 in
      let y₀ = y.0 in
      let gl = in_lower m c g in
      let gu = in_upper m c g in
      let room₁ : Room 8190 (follows m c) t.counts.requests = subst (λ (o : Place). Room 8190 o t.counts.requests) (sym (lower m c g)) (omega arith) in
      let room₂ : Room 8190 (follows m d) u.counts.requests = subst (λ (o : Place). Room 8190 o u.counts.requests) (sym (upper m c g)) l in
      let r₁ : There (asking m c (group_word m c) (asked w s)) =
      beyond r (one_step (first 8190 follows (hearing_on line) (suc m) c w s unclear e g f (omega arith)) here) in
      let r₂ : There (asking m d (group_word m d) t) =
      beyond r₁ (subst (λ (o : Place). Reaches (on_line line) (asking m c (group_word m c) (asked w s)) (record { sent = t.sent; last = Ok (stand o t.counts) })) (lower m c g)
      (heart 8190 follows (hearing_on line) a gl (omega arith) room₁)) in
      let g₀ = g.0 in
      let k₁ = told a gl (sym (request_part p m c (omega arith))) r₁ (omega arith) room₁ in
      let k₂ = told b gu (sym (request_part p m d (omega arith))) r₂ x.1 room₂ in
      rw (collided S m c n, halved S m c)
      (reads_both (search_of S m c).requests (search_of S m d).requests w (devices S m c) (devices S m d) s t u
      (no_read (suc m) c w g q) k₁ k₂)
  told (single {c = c} {word = w} {s = s} e) g q r f l =
      let n = heard_many (devices S zero c) (sym (judged zero c w s g q r) ∙ e) in
      absurd (omega (arith, devices_few S zero c))

  abbrev end : Seen
  end = all line p h

  whole : Reads (search_of S 12 0).requests (devices S 12 0) nothing end
  unfolding after
  whole =
      let r₀ : There (asking 12 0 (request_word p 12 0) nothing) = subst (λ (x : History). There x) (started p h) here in
      told (walk line p h) top refl r₀ (lit≤ tt) (all_few line p h).0

  pub all_read : AllRead S (final line p h)
  all_read =
      let k = whole in
      let o : read_order end.sent ≡ devices S 12 0 = k.order in
      let n = set_count S in
      let q : end.counts.requests ≡ (search_of S 12 0).requests = k.asked_for ∙ zero-add (search_of S 12 0).requests in
      record {
        round = round Ended 12 0 end.counts;
        counts = end.counts;
        last = refl;
        each = λ a l v. subst (λ (x : List ℕ). Memᴰ a x) (sym o) (listed S 12 0 top a (record { small = l; event = v; group = eq-eqb _ _ (mod-one a) }));
        only = λ a d. let z = member S 12 0 top a (subst (λ (x : List ℕ). Memᴰ a x) o d) in (z.small, z.event);
        rising = subst (λ (x : List ℕ). Rising 0 x) (sym o) (in_order S 12 0 top);
        devices = ap length o ∙ n;
        reads = k.read_all ∙ zero-add (length (devices S 12 0)) ∙ n;
        requests = subst (λ (x : ℕ). end.counts.requests ≤ 1 + 24 * (x / 2)) n (omega (arith, cost S 12 0));
        unresolved = k.clear;
        order_found = o ∙ sym (finds S 12 0);
        requests_found = q;
        reads_found = k.read_all ∙ zero-add (length (devices S 12 0)) ∙ ap length (sym (finds S 12 0));
      }
    where
      mod-one : (a : ℕ) → a % 2 ^ (12 - 12) ≡ 0
      mod-one a = omega arith
