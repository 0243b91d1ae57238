-- Demand 3, over the definitions. A step of `run` sends one word and takes its answer; after the end it changes nothing.
-- Assumes nothing.
use mathlib.Core.Path.{◌≡◌, refl, sym, ap, ◌∙◌, subst}
use mathlib.Core.Bool.{Bool, ◌||◌}
use mathlib.Core.List.{[], ◌∷◌}
use Prim.Native.Nat.{ℕ, ◌+◌, ◌*◌, ◌/◌, ◌≤◌}
use lib.Dec.{eqb}
use lib.ListN.{length}
use Rattle.std.specs.Prelude.{Err}
use Rattle.refusals.specs.declared.Refusal.{Refusal}
use Rattle.groups.specs.Sets.{devices, how_many, Rising}
use Rattle.groups.specs.Search.{Found, search_of}
use Rattle.rounds.specs.Lines.{Line, History, run, Right, Ending}
use Rattle.rounds.specs.Demand.{Truthful, read_order, AllRead}
use Rattle.rounds.specs.Bytes.{ByteLine, MadeFrom, TruthfulBytes}
use Rattle.rounds.proofs.Any as any
use Rattle.rounds.proofs.Bytes.{bytes_truthful, true_bytes, bytes_exist}
use Rattle.rounds.proofs.Truth.{all_read}
use Rattle.rounds.proofs.Exists as true-line

-- "On any line at all, a round ends after at most 8,191 requests, and the count it reports is the number of requests it handed out"
pub ends : (p : ℕ) → p ≤ 4095 → (line : Line) (n : ℕ) → 12287 ≤ n → Ending (run line p n)
ends p h line n l = any.ends line p h n l

-- at every step each count is the number of such events in the history; no round from a start is refused
pub counts_right : (p : ℕ) → p ≤ 4095 → (line : Line) (n : ℕ) → Right line (run line p n).sent (run line p n).last
counts_right p h line n = any.every_step line p h n

pub accepted : (p : ℕ) → p ≤ 4095 → (line : Line) (n : ℕ) (j : Refusal) → (run line p n).last ≡ Err j → ⊥
accepted p h line n j = any.accepted line p h n j

-- on any line at all the reads rise in the order of their bits taken lowest first, so no device is read twice
pub order_right : (p : ℕ) → p ≤ 4095 → (line : Line) (n : ℕ) → Rising 0 (read_order (run line p n).sent)
order_right p h line n = any.every_order line p h n

-- "Then each of the k is read exactly once and no other device is, in the order document 01 fixes, after at most 1 + 24 x floor(k/2) requests"
pub reads_all : (S : ℕ → Bool) (p : ℕ) → p ≤ 4095 → (line : Line) → Truthful S p line → (n : ℕ) → 12287 ≤ n → AllRead S (run line p n)
reads_all S p h line t n l = subst (λ (x : History). AllRead S x) (sym (any.ended_here line p h n l)) (all_read S p h line t)

-- and there is such a line for each set
pub some_line : (S : ℕ → Bool) (p : ℕ) → p ≤ 4095 → Truthful S p (true-line.true_line S)
some_line = true-line.exists

-- as is the line whose devices clear their events when they are read
pub clearing_line_lem : (S : ℕ → Bool) (p : ℕ) → p ≤ 4095 → Truthful S p (true-line.clearing_line S)
clearing_line_lem = true-line.clearing

-- the same over bytes: "silence for none, a collision for several, and for one the frame that names that device's own message"
pub reads_all_bytes : (S : ℕ → Bool) (p : ℕ) → p ≤ 4095 → (bytes : ByteLine) (line : Line) → MadeFrom bytes line → TruthfulBytes S p bytes line →
    (n : ℕ) → 12287 ≤ n → AllRead S (run line p n)
reads_all_bytes S p h bytes line made t n l = reads_all S p h line (bytes_truthful S p bytes line made t) n l

pub some_bytes : (S : ℕ → Bool) (p : ℕ) → p ≤ 4095 → MadeFrom (true_bytes S) (true-line.true_line S) × TruthfulBytes S p (true_bytes S) (true-line.true_line S)
some_bytes = bytes_exist

-- ---- {000, 800} meets the bound for k = 2: 25 requests
pub pair : ℕ → Bool
pair a = eqb a 0x000 || eqb a 0x800

pair_found : search_of pair 12 0 ≡ record { requests = 25; order = 0x000 ∷ 0x800 ∷ [] }
unfolding pair search_of devices
pair_found = refl

pub bound_met : (h : History) (all : AllRead pair h) → (all.counts.requests ≡ 25) × (1 + 24 * (how_many pair 4096 / 2) ≡ 25)
bound_met h all =
    let k : how_many pair 4096 ≡ 2 = sym all.devices ∙ ap length (all.order_found ∙ ap (λ (f : Found). f.order) pair_found) in
    (all.requests_found ∙ ap (λ (f : Found). f.requests) pair_found, ap (λ (x : ℕ). 1 + 24 * (x / 2)) k)
