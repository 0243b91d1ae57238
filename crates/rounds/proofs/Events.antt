-- At every step of a round each of its counts is the number of such events since its start, and its reads rise in the order of their bits
-- taken lowest first.
-- Assumes nothing.
use mathlib.Core.Path.{◌≡◌, refl, sym, ap, ap₂, ◌∙◌, subst}
use mathlib.Core.Bool.{Bool, true, false, cond, ◌||◌, and-eq-true_iff}
use mathlib.Core.List.{List, [], ◌∷◌, append-nil}
use Prim.Native.Nat.{ℕ, zero, suc, ◌+◌, ◌-◌, ◌^◌, ◌≤◌, ◌<◌}
use native.Mathlib.Omega.{arith}
use lib.Dec.{eqb, lit≤}
use borrow.Author.Tests.{le-ltb, eq-eqb, eqb-true}
use Rattle.std.specs.Prelude.{Ok, Err}
use Rattle.refusals.specs.declared.Refusal.TheVariants.{ImpossibleRound}
use Rattle.frames.specs.declared.LineAnswer.{LineAnswer}
use Rattle.frames.specs.declared.LineAnswer.TheVariants.{Silence, Reply, Collision}
use Rattle.frames.specs.Words.{f_code_of, address, word_of}
use Rattle.groups.specs.Groups.{in_group, group_word, request_word, Place, over, at, follows}
use Rattle.groups.specs.Sets.{Rising}
use Rattle.groups.proofs.Follow.{Group, in_lower, next_group}
use Rattle.groups.proofs.Words.{group_code, single_code, single_address, general_code, request_part, group_of, named_by}
use Rattle.groups.proofs.Order.{Between, low, longer, joined, rising, in_range, range_most, lower_low, next_low}
use Rattle.rounds.specs.declared.Phase.{Phase}
use Rattle.rounds.specs.declared.Phase.TheVariants.{Asked, Read, Ended}
use Rattle.rounds.specs.declared.Counts.{Counts}
use Rattle.rounds.specs.declared.Round.{Round}
use Rattle.rounds.specs.declared.Step.TheVariants.{Next, End}
use Rattle.rounds.specs.Rounds.{round, one_request, one_read, one_unresolved, Verdict, nobody, named, unclear, is_good, judge, stand, heard, impossible, ended, Handed, step_by, step_of, start_of}
use Rattle.rounds.specs.Demand.{read_order}
use Rattle.rounds.specs.Lines.{Line, History, tick_by, run_by, on_line, begun, run, is_request, is_read, counted, is_unclear, is_unresolved, unresolved_in, Right}

-- ---- what a word is
abbrev loss_at : ℕ → ℕ → LineAnswer → Bool
loss_at zero c a = is_unclear (judge zero c a)
loss_at (suc m) c a = false

-- what is to be known of a word that asks {M, C}
pub record Asks (m c w : ℕ) : Type 0 where
  pub request : is_request w ≡ true
  pub no_read : is_read w ≡ false
  pub loss : (a : LineAnswer) → is_unresolved w a ≡ loss_at m c a

-- a word with F_code 9 or 13 over more than one device
asks_more : (m c w f : ℕ) → f_code_of w ≡ f → (eqb f 9 || eqb f 13 || eqb f 14) ≡ true → eqb f 12 ≡ false → eqb f 14 ≡ false → Asks (suc m) c w
asks_more m c w f e r n k = record { request = rw e r; no_read = rw e n; loss = λ a. rw e (simp k) }

asks_single : (c : ℕ) → c < 4096 → Asks zero c (group_word 0 c)
asks_single c h =
    let e = single_code c h in
    record { request = rw e refl; no_read = rw e refl; loss = λ a. rw (e, single_address c h) refl }

asks_part : (m c : ℕ) → m ≤ 11 → c < 2 ^ (12 - m) → Asks m c (group_word m c)
asks_part zero c h l = asks_single c l
asks_part (suc m) c h l = asks_more m c (group_word (suc m) c) 13 (group_code (suc m) c (λ (z : suc m ≡ 0). omega arith) h l) refl refl refl

asks_whole : (p c : ℕ) → p ≤ 4095 → Asks 12 c (word_of 9 p)
asks_whole p c h = asks_more 11 c (word_of 9 p) 9 (general_code p h) refl refl refl

pub asks : (p m c : ℕ) → p ≤ 4095 → Group m c → Asks m c (request_word p m c)
asks p m c h t = go (eqb m 12) refl
  where
    go : (b : Bool) → eqb m 12 ≡ b → Asks m c (cond b (word_of 9 p) (group_word m c))
    go true e = subst (λ (n : ℕ). Asks n c (word_of 9 p)) (sym (eqb-true _ _ e)) (asks_whole p c h)
    go false e =
        let l = t.0 in
        let f : m ≡ 12 → ⊥ = λ (z : m ≡ 12). let y : ◌≡◌ {A = ℕ} 0 1 = cc (sym e ∙ eq-eqb m 12 z) in omega arith in
        asks_part m c (omega arith) t.1

-- a good reply has F_code 12 and an address in the group
pub named_good : (m c : ℕ) (a : LineAnswer) (x : ℕ) → judge m c a ≡ named x → (f_code_of x ≡ 12) × (in_group m c (address x) ≡ true)
named_good m c Silence x e = absurd (let z : ◌≡◌ {A = ℕ} 0 1 = cc in omega arith)
named_good m c (Reply w) x e =
    let t = tell (is_good m c w) refl e in
    let g = (and-eq-true_iff (eqb (f_code_of x) 12) (in_group m c (address x))).0 (subst (λ (y : ℕ). is_good m c y ≡ true) t.1 t.0) in
    (eqb-true _ _ g.0, g.1)
  where
    tell : (b : Bool) → is_good m c w ≡ b → cond b (named w) unclear ≡ named x → (is_good m c w ≡ true) × (w ≡ x)
    tell true g k = (g, cc)
    tell false g k = absurd (let z : ◌≡◌ {A = ℕ} 0 1 = cc in omega arith)
named_good m c Collision x e = absurd (let z : ◌≡◌ {A = ℕ} 0 1 = cc in omega arith)

-- ---- the counts, with d reads handed out whose answers were not taken; and the devices read so far lie before place b of the order
pub record Numbers (line : Line) (sent : List ℕ) (d b : ℕ) (k : Counts) : Type 0 where
  pub requests : k.requests ≡ counted is_request sent
  pub reads : k.reads ≡ counted is_read sent + d
  pub unresolved : k.unresolved ≡ unresolved_in line sent
  pub order : Between 0 b (read_order sent)

further : (line : Line) (sent : List ℕ) (d b b₂ : ℕ) (k : Counts) → b ≤ b₂ → Numbers line sent d b k → Numbers line sent d b₂ k
further line sent d b b₂ k h n = record { requests = n.requests; reads = n.reads; unresolved = n.unresolved; order = longer 0 b b₂ (read_order sent) h n.order }

module _ (line : Line) (p : ℕ) (h : p ≤ 4095) where
  abbrev Waits : List ℕ → ℕ → ℕ → Counts → ℕ → Phase → Type 0
  Waits sent m c k w Asked = Group m c × (w ≡ request_word p m c) × Numbers line sent 0 (low m c) k
  Waits sent m c k w Read = Group m c × (f_code_of w ≡ 12) × (in_group m c (address w) ≡ true) × Numbers line sent 1 (low m c) k
  Waits sent m c k w Ended = ⊥

  abbrev pub Known : List ℕ → Handed → Type 0
  Known sent (Ok (Next r w)) = Waits sent r.m r.c (r.counts) w r.phase
  Known sent (Ok (End r k)) = (r.phase ≡ Ended) × (k ≡ r.counts) × Numbers line sent 0 4096 k
  Known sent (Err n) = Unit {0}

  -- the group is done
  known_on : (sent : List ℕ) (m c : ℕ) (k : Counts) → Group m c → Numbers line sent 0 (low m c + 2 ^ m) k → Known sent (Ok (stand (follows m c) k))
  known_on sent m c k g n = go (follows m c) refl
    where
      go : (place : Place) → follows m c ≡ place → Known sent (Ok (stand place k))
      go over e = (refl, refl, further line sent 0 (low m c + 2 ^ m) 4096 k (range_most m c g.0) n)
      go (at m₁ c₁) e =
          let x = next_group m c m₁ c₁ g e in
          let b = x.below in
          ((omega arith, x.group), sym (request_part p m₁ c₁ b), subst (λ (y : ℕ). Numbers line sent 0 y k) (sym (next_low m c m₁ c₁ g e)) n)

  -- the request was answered
  module _ (sent : List ℕ) (m c w : ℕ) (k : Counts) (g : Group m c) (e : w ≡ request_word p m c) (n : Numbers line sent 0 (low m c) k) where
    word : Asks m c w
    word = subst (λ (x : ℕ). Asks m c x) (sym e) (asks p m c h g)

    same_order : Between 0 (low m c) (read_order (w ∷ sent))
    same_order = simp (word.no_read, append-nil) n.order

    counted_one : loss_at m c (line (w ∷ sent)) ≡ false → Numbers line (w ∷ sent) 0 (low m c) (one_request k)
    counted_one l =
        record {
          requests = simp word.request (ap (λ (x : ℕ). x + 1) n.requests);
          reads = simp word.no_read (omega (arith, n.reads));
          unresolved = simp (word.loss (line (w ∷ sent)), l) (omega (arith, n.unresolved));
          order = same_order;
        }

    counted_loss : loss_at m c (line (w ∷ sent)) ≡ true → Numbers line (w ∷ sent) 0 (low m c) (one_unresolved (one_request k))
    counted_loss l =
        record {
          requests = simp word.request (ap (λ (x : ℕ). x + 1) n.requests);
          reads = simp word.no_read (omega (arith, n.reads));
          unresolved = simp (word.loss (line (w ∷ sent)), l) (ap (λ (x : ℕ). x + 1) n.unresolved);
          order = same_order;
        }

    -- silence, or a device that is left unresolved
    passed : (j : Counts) → Numbers line (w ∷ sent) 0 (low m c) j → Known (w ∷ sent) (Ok (stand (follows m c) j))
    passed j y = known_on (w ∷ sent) m c j g (further line (w ∷ sent) 0 (low m c) (low m c + 2 ^ m) j (omega arith) y)

    found : (x : ℕ) → judge m c (line (w ∷ sent)) ≡ named x → Numbers line (w ∷ sent) 0 (low m c) (one_request k) → Waits (w ∷ sent) m c (one_read (one_request k)) x Read
    found x j y =
        let o = named_good m c (line (w ∷ sent)) x j in
        let y₂ = y.reads in
        (g, o.0, o.1, record { requests = y.requests; reads = omega arith; unresolved = y.unresolved; order = y.order })

  known_heard : (sent : List ℕ) (m c w : ℕ) (k : Counts) → Group m c → w ≡ request_word p m c → Numbers line sent 0 (low m c) k → (v : Verdict) → judge m c (line (w ∷ sent)) ≡ v → Known (w ∷ sent) (Ok (heard v m c (one_request k)))
  known_heard sent zero c w k g e n nobody j = passed sent zero c w k g e n (one_request k) (counted_one sent zero c w k g e n (ap is_unclear j))
  known_heard sent (suc m) c w k g e n nobody j = passed sent (suc m) c w k g e n (one_request k) (counted_one sent (suc m) c w k g e n refl)
  known_heard sent zero c w k g e n (named x) j = found sent zero c w k g e n x j (counted_one sent zero c w k g e n (ap is_unclear j))
  known_heard sent (suc m) c w k g e n (named x) j = found sent (suc m) c w k g e n x j (counted_one sent (suc m) c w k g e n refl)
  known_heard sent zero c w k g e n unclear j = passed sent zero c w k g e n (one_unresolved (one_request k)) (counted_loss sent zero c w k g e n (ap is_unclear j))
  known_heard sent (suc m) c w k g e n unclear j =
      let l = g.0 in
      let y = counted_one sent (suc m) c w k g e n refl in
      (in_lower m c g, sym (request_part p m c (omega arith)), subst (λ (b : ℕ). Numbers line (w ∷ sent) 0 b (one_request k)) (sym (lower_low m c g)) y)

  -- the read was answered
  read_order_lem : (sent : List ℕ) (m c w : ℕ) → Group m c → f_code_of w ≡ 12 → in_group m c (address w) ≡ true → Between 0 (low m c) (read_order sent) →
      Between 0 (low m c + 2 ^ m) (read_order (w ∷ sent))
  read_order_lem sent m c w g e i o =
      let a = address w in
      let r = in_range (λ x. true) m c a g (record { small = omega arith; event = refl; group = i }) in
      let r₁ = r.1 in
      rw e (joined 0 (low m c) (low m c + 2 ^ m) (read_order sent) (a ∷ []) o (r.0, omega arith))

  known_refused : (sent : List ℕ) (b : Bool) (s : Handed) → Known sent s → Known sent (cond b (Err ImpossibleRound) s)
  known_refused sent true s k = tt
  known_refused sent false s k = k

  known_step : (sent : List ℕ) (ph : Phase) (m c w : ℕ) (k : Counts) → Waits sent m c k w ph → Known (w ∷ sent) (step_of (round ph m c k) (line (w ∷ sent)))
  unfolding step_by
  known_step sent Asked m c w k x = known_refused (w ∷ sent) (impossible 8190 follows (round Asked m c k)) _ (known_heard sent m c w k x.0 x.1 x.2 (judge m c (line (w ∷ sent))) refl)
  known_step sent Read m c w k x =
      let e = x.1 in
      let n = x.3 in
      let o = read_order_lem sent m c w x.0 e x.2 n.order in
      known_refused (w ∷ sent) (impossible 8190 follows (round Read m c k)) _ (known_on (w ∷ sent) m c k x.0
      (record { requests = rw e (omega (arith, n.requests)); reads = rw e (omega (arith, n.reads)); unresolved = rw e (omega (arith, n.unresolved)); order = o }))
  known_step sent Ended m c w k x = absurd x

  known_tick : (x : History) → Known x.sent x.last → Known (tick_by (on_line line) x).sent (tick_by (on_line line) x).last
  known_tick x k = go x.sent x.last k
    where
      go : (sent : List ℕ) (s : Handed) → Known sent s → Known (tick_by (on_line line) (record { sent = sent; last = s })).sent (tick_by (on_line line) (record { sent = sent; last = s })).last
      go sent (Ok (Next r w)) k = known_step sent r.phase r.m r.c w (r.counts) k
      go sent (Ok (End r j)) k = k
      go sent (Err n) k = tt

  known_run : (n : ℕ) (x : History) → Known x.sent x.last → Known (run_by (on_line line) n x).sent (run_by (on_line line) n x).last
  known_run zero x k = k
  known_run (suc n) x k = known_run n (tick_by (on_line line) x) (known_tick x k)

  known_start : Known [] (start_of p)
  unfolding start_of
  known_start = simp (le-ltb 4095 p h) ((lit≤ tt, lit≤ tt), refl, record { requests = refl; reads = refl; unresolved = refl; order = omega arith })

  pub known : (n : ℕ) → Known (run line p n).sent (run line p n).last
  known n = known_run n (begun p) known_start

  -- ---- what the reader of a history is told
  right_waits : (sent : List ℕ) (ph : Phase) (m c w : ℕ) (k : Counts) → Waits sent m c k w ph → Right line sent (Ok (Next (round ph m c k) w))
  right_waits sent Asked m c w k x =
      let a : Asks m c w = subst (λ (y : ℕ). Asks m c y) (sym x.1) (asks p m c h x.0) in
      let n = x.2 in (
        refl,
        record {
          requests = n.requests;
          reads = simp a.no_read n.reads;
          unresolved = n.unresolved;
          handed_out = simp a.request (ap (λ (y : ℕ). y + 1) (sym n.requests));
        },
      )
  right_waits sent Read m c w k x =
      let e = x.1 in
      let n = x.3 in (
        refl,
        record {
          requests = n.requests;
          reads = rw e n.reads;
          unresolved = n.unresolved;
          handed_out = rw e (omega (arith, n.requests));
        },
      )
  right_waits sent Ended m c w k x = absurd x

  pub right : (sent : List ℕ) (s : Handed) → Known sent s → ((n : _) → s ≡ Err n → ⊥) → Right line sent s
  right sent (Ok (Next r w)) k f = right_waits sent r.phase r.m r.c w (r.counts) k
  right sent (Ok (End r j)) k f =
      let n : Numbers line sent 0 4096 (r.counts) = subst (λ (y : Counts). Numbers line sent 0 4096 y) k.1 k.2 in
      let n₁ = n.requests in
      let n₂ = n.reads in (
        ap ended k.0,
        k.1,
        record {
          requests = n₁;
          reads = omega arith;
          unresolved = n.unresolved;
          handed_out = rw k.0 (omega arith);
        },
      )
  right sent (Err n) k f = absurd (f n refl)

  -- ---- the order of the reads
  rises_in : (sent : List ℕ) (s : Handed) → Known sent s → ((n : _) → s ≡ Err n → ⊥) → Rising 0 (read_order sent)
  rises_in sent (Ok (Next r w)) k f = go r.phase k
    where
      go : (ph : Phase) → Waits sent r.m r.c (r.counts) w ph → Rising 0 (read_order sent)
      go Asked x = rising 0 (low r.m r.c) (read_order sent) x.2.order
      go Read x = rising 0 (low r.m r.c) (read_order sent) x.3.order
      go Ended x = absurd x
  rises_in sent (Ok (End r j)) k f = rising 0 4096 (read_order sent) k.2.order
  rises_in sent (Err n) k f = absurd (f n refl)

  pub rises : (n : ℕ) → ((j : _) → (run line p n).last ≡ Err j → ⊥) → Rising 0 (read_order (run line p n).sent)
  rises n f = rises_in (run line p n).sent (run line p n).last (known n) f

  -- where the request for {M, C} is handed out, the devices read so far lie before its range
  pub before_range : (n m c : ℕ) (r : Round) → Group m c → (run line p n).last ≡ Ok (Next r (request_word p m c)) → Between 0 (low m c) (read_order (run line p n).sent)
  before_range n m c r g e = go r.phase (subst (λ (s : Handed). Known (run line p n).sent s) e (known n))
    where
      go : (ph : Phase) → Waits (run line p n).sent r.m r.c (r.counts) (request_word p m c) ph → Between 0 (low m c) (read_order (run line p n).sent)
      go Asked x =
          let q : at m c ≡ at r.m r.c = sym (named_by p m c h g) ∙ ap group_of x.1 ∙ named_by p r.m r.c h x.0 in
          let q₁ : r.m ≡ m = cc in
          let q₂ : r.c ≡ c = cc in
          subst (λ (y : ℕ). Between 0 y (read_order (run line p n).sent)) (ap₂ low q₁ q₂) x.2.order
      go Read x = absurd (let y : ◌≡◌ {A = ℕ} 0 1 = cc (sym (asks p m c h g).no_read ∙ eq-eqb _ _ x.1) in omega arith)
      go Ended x = absurd x
