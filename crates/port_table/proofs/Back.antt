-- The goodness test, from the last record to the first.
-- Assumes nothing.
use Rattle.std.proofs.Common.{ℕ, zero, suc, ◌+◌, ◌-◌, ◌*◌, ◌/◌, ◌%◌, ◌^◌, ◌<◌, ◌≤◌, ◌≡◌, Bool, true, false, cond, ◌&&◌, refl, sym, ap, ap₂, subst, ◌∙◌, arith, List, [], ◌∷◌, ◌++◌, length, get_or, take, drop, drop-cons, drop_of_length-le, ltb, leb, Some, None}
use mathlib.Core.Bool.{and-false}
use lib.ListN.{take-append-drop}
use lib.Pow.{pow_pos}
use borrow.Author.Tests.{lt-ltb, le-leb, lt-leb, ltb-true, ltb-false}
use Rattle.checks.specs.Bits.{one}
use Rattle.port_table.specs.declared.Port.{Port}
use Rattle.port_table.specs.Table.{rising, good, no_port, is_sink}
use Rattle.port_table.specs.Tested.{sink_bits, sinks_part, sinks_in, good_tested, tested_of}
use Rattle.port_table.proofs.Tables.{by_cases, not_both}

-- ---- order

-- what an address must be below, before records in order
abbrev pub lowest : List Port → ℕ
lowest [] = 4096
lowest (p ∷ ps) = p.address

pub both : (a b : Bool) → (a && b) ≡ true → (a ≡ true) × (b ≡ true)
both true b h = (refl, h)
both false b h = absurd (mathlib.Core.Bool.false≢true h)

-- a record in front of records in order is below the first of them
rising_more : (p : Port) (ps : List Port) → rising 0 (p ∷ ps) ≡ (ltb p.address (lowest ps) && (ltb p.f_code 5 && rising 0 ps))
unfolding rising
rising_more p [] = ap (λ (b : Bool). b && (ltb p.address 4096 && (ltb p.f_code 5 && true))) (le-leb 0 p.address (omega arith))
rising_more p (q ∷ ps) =
    ap (λ (b : Bool). b && (ltb p.address 4096 && (ltb p.f_code 5 && (leb (p.address + 1) q.address && behind)))) (le-leb 0 p.address (omega arith))
    ∙ by_cases (ltb p.address q.address)
    (λ t. by_cases (ltb q.address 4096)
    (λ u.
    ap₂ (λ (b c : Bool). b && (ltb p.f_code 5 && (c && behind))) (lt-ltb p.address 4096 (omega (arith, ltb-true p.address q.address t, ltb-true q.address 4096 u))) (le-leb (p.address + 1) q.address (omega (arith, ltb-true p.address q.address t)))
    ∙ sym (ap₂ (λ (b c : Bool). b && (ltb p.f_code 5 && (c && behind))) t (le-leb 0 q.address (omega arith))))
    (λ f. none (ltb p.address 4096) (leb (p.address + 1) q.address) f ∙ sym (none (ltb p.address q.address) (leb 0 q.address) f)))
    (λ f.
    ap (λ (b : Bool). ltb p.address 4096 && (ltb p.f_code 5 && (b && behind))) (lt-leb (p.address + 1) q.address (omega (arith, ltb-false p.address q.address f)))
    ∙ ap (λ (b : Bool). ltb p.address 4096 && b) (and-false (ltb p.f_code 5)) ∙ and-false (ltb p.address 4096)
    ∙ sym (ap (λ (b : Bool). b && (ltb p.f_code 5 && (leb 0 q.address && behind))) f))
  where
    behind : Bool
    behind = ltb q.address 4096 && (ltb q.f_code 5 && rising (q.address + 1) ps)

    none : (b c : Bool) → ltb q.address 4096 ≡ false → (b && (ltb p.f_code 5 && (c && behind))) ≡ false
    none b c f =
        ap (λ (d : Bool). b && (ltb p.f_code 5 && (c && (d && (ltb q.f_code 5 && rising (q.address + 1) ps))))) f
        ∙ ap (λ (d : Bool). b && (ltb p.f_code 5 && d)) (and-false c) ∙ ap (λ (d : Bool). b && d) (and-false (ltb p.f_code 5)) ∙ and-false b

-- records behind records in order are in order
rising_behind : (qs rs : List Port) → rising 0 (qs ++ rs) ≡ true → rising 0 rs ≡ true
rising_behind [] rs h = h
rising_behind (q ∷ qs) rs h =
    let more = both (ltb q.address (lowest (qs ++ rs))) _ (sym (rising_more q (qs ++ rs)) ∙ h) in
    rising_behind qs rs (both (ltb q.f_code 5) _ more.1).1

pub none_lowest : (ps : List Port) → (rising 0 (drop (length ps) ps) ≡ true) × (4096 ≡ lowest (drop (length ps) ps))
unfolding rising
none_lowest ps = let e = drop_of_length-le ps {i = length ps} (omega arith) in (ap (λ (l : List Port). rising 0 l) e, ap lowest (sym e))

module _ (ps : List Port) (i limit : ℕ) (o : rising 0 (drop (i + 1) ps) ≡ true) (b : limit ≡ lowest (drop (i + 1) ps)) (h : i < length ps) where
  abbrev q : Port
  q = get_or ps i no_port

  here : rising 0 (drop i ps) ≡ (ltb q.address limit && ltb q.f_code 5)
  here =
      ap (λ (l : List Port). rising 0 l) (drop-cons ps i no_port h ∙ ap (λ (n : ℕ). q ∷ drop n ps) (let z : suc i ≡ i + 1 = omega arith in z))
      ∙ rising_more q (drop (i + 1) ps)
      ∙ ap₂ (λ (n : ℕ) (c : Bool). ltb q.address n && (ltb q.f_code 5 && c)) (sym b) o
      ∙ ap (λ (c : Bool). ltb q.address limit && c) (mathlib.Core.Bool.and-true (ltb q.f_code 5))

  pub fits : (ltb q.address limit && ltb q.f_code 5) ≡ true → (rising 0 (drop i ps) ≡ true) × (q.address ≡ lowest (drop i ps))
  fits e = (here ∙ e, ap lowest (sym (drop-cons ps i no_port h)))

  bad : rising 0 (drop i ps) ≡ false → None ≡ tested_of ps
  unfolding tested_of good
  bad e = by (rising 0 ps) (λ t. rising_behind (take i ps) (drop i ps) (ap (λ (l : List Port). rising 0 l) (take-append-drop i ps) ∙ t))
    where
      by : (c : Bool) → (c ≡ true → rising 0 (drop i ps) ≡ true) → None ≡ cond (leb (length ps) 256 && c) (Some (good_tested ps)) None
      by true t = not_both (t refl) e
      by false t = sym (ap (λ (c : Bool). cond c (Some (good_tested ps)) None) (and-false (leb (length ps) 256)))

  pub unfit : (ltb q.address limit && ltb q.f_code 5) ≡ false → None ≡ tested_of ps
  unfit e = bad (here ∙ e)

-- ---- sinks

pub one_most : (b : Bool) → one b ≤ 1
one_most true = omega arith
one_most false = omega arith

-- the first records' bits are the lowest
bits_low : (n : ℕ) (ps : List Port) → sink_bits (take n ps) ≡ sink_bits ps % 2 ^ n
unfolding sink_bits
bits_low zero ps = let p = native.Mathlib.Nat.pow-zero 2 in omega arith
bits_low (suc n) [] = sym (native.Mathlib.Nat.zero-mod (2 ^ suc n))
bits_low (suc n) (p ∷ ps) =
    let w : ℕ = 2 ^ n in
    let x : ℕ = one (is_sink p) + 2 * (sink_bits ps % w) in
    let r : sink_bits ps % w < w = native.Mathlib.Nat.mod-lt (sink_bits ps) (pow_pos n) in
    let d : sink_bits ps ≡ w * (sink_bits ps / w) + sink_bits ps % w = sym (native.Mathlib.Nat.div-add-mod (sink_bits ps) w) in
    let e : 2 ^ suc n ≡ 2 * w = native.Mathlib.Nat.pow-succ' 2 n in
    let m : 2 * w * (sink_bits ps / w) ≡ 2 * (w * (sink_bits ps / w)) = native.Mathlib.Nat.mul_assoc 2 w (sink_bits ps / w) in
    ap (λ (k : ℕ). one (is_sink p) + 2 * k) (bits_low n ps)
    ∙ sym (native.Mathlib.Nat.mod-eq_of_lt {n = x} {m = 2 * w} (omega (arith, one_most (is_sink p))))
    ∙ sym (native.Mathlib.Nat.add-mul-mod_self_left x (2 * w) (sink_bits ps / w))
    ∙ ap (λ (k : ℕ). k % (2 * w)) (let z : x + 2 * w * (sink_bits ps / w) ≡ one (is_sink p) + 2 * sink_bits ps = omega arith in z)
    ∙ ap (λ (k : ℕ). (one (is_sink p) + 2 * sink_bits ps) % k) (sym e)

-- the sinks of 64 records from one on, by those from the next one on
pub marks_next : (ps : List Port) (i bits b : ℕ) → bits ≡ sink_bits (take 64 (drop (i + 1) ps)) → i < length ps → b ≡ one (is_sink (get_or ps i no_port)) → bits * 2 % 18446744073709551616 + b ≡ sink_bits (take 64 (drop i ps))
unfolding sink_bits
marks_next ps i bits b e h eb =
    let t : List Port = drop (i + 1) ps in
    let l : sink_bits (take 63 t) ≡ bits % 9223372036854775808 = bits_low 63 t ∙ (let z : sink_bits t % 9223372036854775808 ≡ sink_bits t % 18446744073709551616 % 9223372036854775808 = omega arith in z) ∙ ap (λ (n : ℕ). n % 9223372036854775808) (sym (bits_low 64 t) ∙ sym e) in
    let c : sink_bits (take 64 (drop i ps)) ≡ one (is_sink (get_or ps i no_port)) + 2 * sink_bits (take 63 t) =
    ap (λ (l : List Port). sink_bits (take 64 l)) (drop-cons ps i no_port h ∙ ap (λ (n : ℕ). get_or ps i no_port ∷ drop n ps) (let z : suc i ≡ i + 1 = omega arith in z)) in
    omega arith

-- the parts that begin with a record from one on, the first of them first
abbrev pub Taken : ℕ → List Port → List ℕ → Type 0
Taken i ps sinks = (j : ℕ) → j < 4 → get_or sinks j 0 ≡ sinks_part ps ((i + 63) / 64 + j)

pub none_taken : (ps : List Port) (sinks : List ℕ) → sinks ≡ 0 ∷ 0 ∷ 0 ∷ 0 ∷ [] → Taken (length ps) ps sinks
unfolding sinks_part sink_bits
none_taken ps sinks e j h =
    ap (λ (s : List ℕ). get_or s j 0) e ∙ zeros j h
    ∙ sym (ap (λ (l : List Port). sink_bits (take 64 l)) (drop_of_length-le ps {i = 64 * ((length ps + 63) / 64 + j)} (omega arith)))
  where
    zeros : (k : ℕ) → k < 4 → ◌≡◌ {A = ℕ} (get_or (0 ∷ 0 ∷ 0 ∷ 0 ∷ []) k 0) 0
    zeros zero h = refl
    zeros (suc zero) h = refl
    zeros (suc (suc zero)) h = refl
    zeros (suc (suc (suc zero))) h = refl
    zeros (suc (suc (suc (suc k)))) h = absurd (omega arith)

module _ (ps : List Port) (i : ℕ) (sinks : List ℕ) (bits : ℕ) (e : bits ≡ sink_bits (take 64 (drop i ps))) (t : Taken (i + 1) ps sinks) where
  -- where a part begins, the parts behind it move on by one
  pub taken_here : i % 64 ≡ 0 → Taken i ps (bits ∷ get_or sinks 0 0 ∷ get_or sinks 1 0 ∷ get_or sinks 2 0 ∷ [])
  unfolding sinks_part
  taken_here h zero f = e ∙ ap (λ (n : ℕ). sink_bits (take 64 (drop n ps))) (let y : i ≡ 64 * ((i + 63) / 64 + 0) = omega arith in y)
  taken_here h (suc zero) f = t 0 (omega arith) ∙ ap (sinks_part ps) (let y : (i + 1 + 63) / 64 + 0 ≡ (i + 63) / 64 + 1 = omega arith in y)
  taken_here h (suc (suc zero)) f = t 1 (omega arith) ∙ ap (sinks_part ps) (let y : (i + 1 + 63) / 64 + 1 ≡ (i + 63) / 64 + 2 = omega arith in y)
  taken_here h (suc (suc (suc zero))) f = t 2 (omega arith) ∙ ap (sinks_part ps) (let y : (i + 1 + 63) / 64 + 2 ≡ (i + 63) / 64 + 3 = omega arith in y)
  taken_here h (suc (suc (suc (suc j)))) f = absurd (omega arith)

  pub taken_on : (i % 64 ≡ 0 → ⊥) → Taken i ps sinks
  taken_on h j f = t j f ∙ ap (sinks_part ps) (let y : (i + 1 + 63) / 64 + j ≡ (i + 63) / 64 + j = omega (arith, h) in y)

pub all_taken : (ps : List Port) (sinks : List ℕ) → length sinks ≡ 4 → Taken 0 ps sinks → sinks ≡ sinks_in ps
all_taken ps [] l t = absurd (omega arith)
all_taken ps (a ∷ []) l t = absurd (omega arith)
all_taken ps (a ∷ b ∷ []) l t = absurd (omega arith)
all_taken ps (a ∷ b ∷ c ∷ []) l t = absurd (omega arith)
all_taken ps (a ∷ b ∷ c ∷ d ∷ e ∷ rest) l t = absurd (omega arith)
all_taken ps (a ∷ b ∷ c ∷ d ∷ []) l t = λ i. t 0 (omega arith) i ∷ t 1 (omega arith) i ∷ t 2 (omega arith) i ∷ t 3 (omega arith) i ∷ []

pub tested_done : (ps : List Port) (sinks : List ℕ) → length ps ≤ 256 → rising 0 ps ≡ true → length sinks ≡ 4 → Taken 0 ps sinks → Some (record { count = length ps; sinks = sinks }) ≡ tested_of ps
unfolding tested_of good
tested_done ps sinks h o l t =
    ap (λ (s : List ℕ). Some (record { count = length ps; sinks = s })) (all_taken ps sinks l t)
    ∙ sym (ap₂ (λ (a b : Bool). cond (a && b) (Some (good_tested ps)) None) (le-leb (length ps) 256 h) o)

pub table_long : (ps : List Port) → 256 < length ps → None ≡ tested_of ps
unfolding tested_of good
table_long ps h = sym (ap (λ (a : Bool). cond (a && rising 0 ps) (Some (good_tested ps)) None) (lt-leb (length ps) 256 h))

-- ---- what is kept of the records from one on

pub record Kept (ps : List Port) (i limit bits : ℕ) (sinks : List ℕ) : Type 0 where
  pub ordered : rising 0 (drop i ps) ≡ true
  pub below : limit ≡ lowest (drop i ps)
  pub marked : bits ≡ sink_bits (take 64 (drop i ps))
  pub taken : Taken i ps sinks
  pub long : length sinks ≡ 4
  pub few : length ps ≤ 256

pub kept_none : (ps : List Port) → length ps ≤ 256 → Kept ps (length ps) 4096 0 (0 ∷ 0 ∷ 0 ∷ 0 ∷ [])
unfolding sink_bits
kept_none ps h =
    let n = none_lowest ps in
    record { ordered = n.0; below = n.1; marked = sym (ap (λ (l : List Port). sink_bits (take 64 l)) (drop_of_length-le ps {i = length ps} (omega arith))); taken = none_taken ps _ refl; long = refl; few = h }

module _ (ps : List Port) (i limit bits : ℕ) (sinks : List ℕ) (kept : Kept ps (i + 1) limit bits sinks) (h : i < length ps) where
  abbrev port : Port
  port = get_or ps i no_port

  abbrev fit : Bool
  fit = ltb port.address limit && ltb port.f_code 5

  -- a record more
  module _ (y : fit ≡ true) (b : ℕ) (eb : b ≡ one (is_sink port)) where
    abbrev more : ℕ
    more = bits * 2 % 18446744073709551616 + b

    one_on : (i % 64 ≡ 0 → ⊥) → Kept ps i port.address more sinks
    one_on m =
        let o = fits ps i limit kept.ordered kept.below h y in
        let e = marks_next ps i bits b kept.marked h eb in
        record { ordered = o.0; below = o.1; marked = e; taken = taken_on ps i sinks more e kept.taken m; long = kept.long; few = kept.few }

    one_here : i % 64 ≡ 0 → Kept ps i port.address more (more ∷ get_or sinks 0 0 ∷ get_or sinks 1 0 ∷ get_or sinks 2 0 ∷ [])
    one_here m =
        let o = fits ps i limit kept.ordered kept.below h y in
        let e = marks_next ps i bits b kept.marked h eb in
        record { ordered = o.0; below = o.1; marked = e; taken = taken_here ps i sinks more e kept.taken m; long = refl; few = kept.few }

  -- a record out of order, or of no port's F_code
  one_bad : fit ≡ false → None ≡ tested_of ps
  one_bad n = unfit ps i limit kept.ordered kept.below h n

-- ---- the last record, where their number is odd, and two records more

-- what does not pass under a limit does not pass under 4,096
below_less : (a limit : ℕ) (c : Bool) → 4096 ≤ limit → (ltb a limit && c) ≡ false → (ltb a 4096 && c) ≡ false
below_less a limit c g e =
    by_cases (ltb a 4096) (λ t. ap (λ (b : Bool). b && c) t ∙ sym (ap (λ (b : Bool). b && c) (lt-ltb a limit (omega (arith, ltb-true a 4096 t)))) ∙ e) (λ f. ap (λ (b : Bool). b && c) f)

module _ (ps : List Port) (few : length ps ≤ 256) (odd : length ps % 2 ≡ 1) where
  abbrev last : ℕ
  last = length ps - 1

  none : Kept ps (last + 1) 4096 0 (0 ∷ 0 ∷ 0 ∷ 0 ∷ [])
  none = subst (λ (n : ℕ). Kept ps n 4096 0 (0 ∷ 0 ∷ 0 ∷ 0 ∷ [])) (let z : length ps ≡ last + 1 = omega arith in z) (kept_none ps few)

  -- out of order below any limit from 4,096 on
  pub last_bad : (limit : ℕ) → 4096 ≤ limit → (ltb (get_or ps last no_port).address limit && ltb (get_or ps last no_port).f_code 5) ≡ false → None ≡ tested_of ps
  last_bad limit g e = one_bad ps last 4096 0 (0 ∷ 0 ∷ 0 ∷ 0 ∷ []) none (omega arith) (below_less (get_or ps last no_port).address limit (ltb (get_or ps last no_port).f_code 5) g e)

  module _ (y : (ltb (get_or ps last no_port).address 4096 && ltb (get_or ps last no_port).f_code 5) ≡ true) (b : ℕ) (eb : b ≡ one (is_sink (get_or ps last no_port))) where
    abbrev from_last : List ℕ → Type 0
    from_last sinks = Kept ps (2 * (length ps / 2)) (get_or ps last no_port).address b sinks

    halved : last ≡ 2 * (length ps / 2)
    halved = omega arith

    alone : 0 * 2 % 18446744073709551616 + b ≡ b
    alone = omega arith

    pub last_on : (length ps % 64 ≡ 1 → ⊥) → from_last (0 ∷ 0 ∷ 0 ∷ 0 ∷ [])
    last_on m =
        subst (λ (n : ℕ). Kept ps n (get_or ps last no_port).address b (0 ∷ 0 ∷ 0 ∷ 0 ∷ [])) halved
        (subst (λ (n : ℕ). Kept ps last (get_or ps last no_port).address n (0 ∷ 0 ∷ 0 ∷ 0 ∷ [])) alone
        (one_on ps last 4096 0 (0 ∷ 0 ∷ 0 ∷ 0 ∷ []) none (omega arith) y b eb (λ e. m (omega (arith, e)))))

    pub last_here : length ps % 64 ≡ 1 → from_last (b ∷ 0 ∷ 0 ∷ 0 ∷ [])
    last_here m =
        subst (λ (n : ℕ). Kept ps n (get_or ps last no_port).address b (b ∷ 0 ∷ 0 ∷ 0 ∷ [])) halved
        (subst (λ (n : ℕ). Kept ps last (get_or ps last no_port).address n (n ∷ 0 ∷ 0 ∷ 0 ∷ [])) alone
        (one_here ps last 4096 0 (0 ∷ 0 ∷ 0 ∷ 0 ∷ []) none (omega arith) y b eb (omega (arith, m))))

pub kept_even : (ps : List Port) → length ps ≤ 256 → (length ps % 2 ≡ 1 → ⊥) → Kept ps (2 * (length ps / 2)) 4096 0 (0 ∷ 0 ∷ 0 ∷ 0 ∷ [])
kept_even ps few even = subst (λ (n : ℕ). Kept ps n 4096 0 (0 ∷ 0 ∷ 0 ∷ 0 ∷ [])) (let z : length ps ≡ 2 * (length ps / 2) = omega (arith, even) in z) (kept_none ps few)

module _ (ps : List Port) (n limit bits : ℕ) (sinks : List ℕ) (kept : Kept ps (2 * n) limit bits sinks) (some : 0 < n) (h : 2 * n ≤ length ps) where
  abbrev low : ℕ
  low = 2 * (n - 1)

  abbrev upper : Port
  upper = get_or ps (low + 1) no_port

  abbrev lower : Port
  lower = get_or ps low no_port

  behind : Kept ps (low + 1 + 1) limit bits sinks
  behind = subst (λ (m : ℕ). Kept ps m limit bits sinks) (let z : 2 * n ≡ low + 1 + 1 = omega arith in z) kept

  pub upper_bad : (ltb upper.address limit && ltb upper.f_code 5) ≡ false → None ≡ tested_of ps
  upper_bad = one_bad ps (low + 1) limit bits sinks behind (omega arith)

  module _ (yu : (ltb upper.address limit && ltb upper.f_code 5) ≡ true) where
    by_one : (u : ℕ) → u ≡ one (is_sink upper) → Kept ps (low + 1) upper.address (bits * 2 % 18446744073709551616 + u) sinks
    by_one u eu = one_on ps (low + 1) limit bits sinks behind (omega arith) yu u eu (λ e. omega (arith, e))

    pub lower_bad : (ltb lower.address upper.address && ltb lower.f_code 5) ≡ false → None ≡ tested_of ps
    lower_bad = one_bad ps low upper.address (bits * 2 % 18446744073709551616 + one (is_sink upper)) sinks (by_one _ refl) (omega arith)

    module _ (yl : (ltb lower.address upper.address && ltb lower.f_code 5) ≡ true) (u l : ℕ) (eu : u ≡ one (is_sink upper)) (el : l ≡ one (is_sink lower)) where
      two : (bits * 2 % 18446744073709551616 + u) * 2 % 18446744073709551616 + l ≡ bits * 4 % 18446744073709551616 + 2 * u + l
      two = omega (arith, eu, one_most (is_sink upper))

      pub pair_on : ((n - 1) % 32 ≡ 0 → ⊥) → Kept ps low lower.address (bits * 4 % 18446744073709551616 + 2 * u + l) sinks
      pair_on m = subst (λ (k : ℕ). Kept ps low lower.address k sinks) two (one_on ps low upper.address _ sinks (by_one u eu) (omega arith) yl l el (λ e. m (omega (arith, e))))

      pub pair_here : (n - 1) % 32 ≡ 0 → Kept ps low lower.address (bits * 4 % 18446744073709551616 + 2 * u + l) ((bits * 4 % 18446744073709551616 + 2 * u + l) ∷ get_or sinks 0 0 ∷ get_or sinks 1 0 ∷ get_or sinks 2 0 ∷ [])
      pair_here m =
          subst (λ (k : ℕ). Kept ps low lower.address k (k ∷ get_or sinks 0 0 ∷ get_or sinks 1 0 ∷ get_or sinks 2 0 ∷ [])) two
          (one_here ps low upper.address _ sinks (by_one u eu) (omega arith) yl l el (omega (arith, m)))

-- all records
pub kept_all : (ps : List Port) (i limit bits : ℕ) (sinks : List ℕ) → Kept ps i limit bits sinks → i ≤ 0 → Some (record { count = length ps; sinks = sinks }) ≡ tested_of ps
kept_all ps i limit bits sinks kept h = let k = subst (λ (j : ℕ). Kept ps j limit bits sinks) (let z : i ≡ 0 = omega arith in z) kept in tested_done ps sinks kept.few k.ordered kept.long k.taken
