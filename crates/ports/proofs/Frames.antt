-- What the frames' reader and writer say of a Process Data port's frame: only 1, 2 and, for the output, 4 are left.
-- Assumes nothing.
use mathlib.Core.Path.{◌≡◌, refl, sym, ap, ◌∙◌}
use mathlib.Core.Bool.{Bool, true, false, not, cond}
use mathlib.Core.List.{List, [], ◌∷◌, ◌++◌}
use Prim.Native.Nat.{ℕ, zero, suc, ◌+◌, ◌-◌, ◌*◌, ◌≤◌, ◌<◌}
use native.Mathlib.Nat.{suc-mul}
use native.Mathlib.Omega.{arith}
use borrow.Author.Tests.{eq-eqb, le-ltb}
use lib.Dec.{eqb, ltb}
use lib.ListN.{length, take, drop, length-append, length-drop}
use lib.Seq.{length-take-le}
use Rattle.std.specs.Prelude.{Result, Ok, Err, MatchResult}
use Rattle.refusals.specs.Told.{Told, gives, refusal, refusing, told, single}
use Rattle.refusals.specs.declared.Refusal.{Refusal}
use Rattle.refusals.specs.Refusals.{number_of}
use Rattle.refusals.proofs.Apart.{never_both}
use Rattle.rows.specs.Rows.{data_bits, reserved, data_bytes, blocks, block_bytes, frame_bytes}
use Rattle.frames.specs.Blocks.{data_in, all_right, right_blocks}
use Rattle.frames.specs.Slave.{slave_data, slave_frame, slave_read, slave_read_out, slave_write, slave_write_out}
use Rattle.ports.specs.Lent.{answered, unless_refused}
use Rattle.ports.specs.Inside.{frame_check, out_check}
use Rattle.frames.proofs.Order.{read_done}
use Rattle.rows.proofs.Rows.{full, whole, whole_most}
use Rattle.frames.proofs.RoundTrip.{slave_accepted, slave_written}

-- no F_code of Process Data is reserved
pub process_data_lem : (f : ℕ) → f ≤ 4 → reserved f ≡ false
unfolding reserved data_bits
process_data_lem zero h = refl
process_data_lem (suc zero) h = refl
process_data_lem (suc (suc zero)) h = refl
process_data_lem (suc (suc (suc zero))) h = refl
process_data_lem (suc (suc (suc (suc zero)))) h = refl
process_data_lem (suc (suc (suc (suc (suc f))))) h = absurd (omega arith)

data_length : (k n : ℕ) (w : List ℕ) → length w ≡ k * (n + 1) → length (data_in k n w) ≡ k * n
data_length zero n w e = omega arith
data_length (suc k) n w e =
    let m : suc k * (n + 1) ≡ k * (n + 1) + (n + 1) = suc-mul k (n + 1) in
    let ld : length (drop (n + 1) w) ≡ length w - (n + 1) = length-drop (n + 1) w in
    let ih : length (data_in k n (drop (n + 1) w)) ≡ k * n = data_length k n (drop (n + 1) w) (omega arith) in
    omega (arith, suc-mul k n, length-take-le n w (omega arith), length-append (take n w) (data_in k n (drop (n + 1) w)))

pub slave_data_length : (f : ℕ) (w : List ℕ) → length w ≡ frame_bytes f → length (slave_data f w) ≡ data_bytes f
unfolding slave_data
slave_data_length f w e = data_length (blocks f) (block_bytes f) w (e ∙ sym (whole f)) ∙ full f

-- the number of a refusal that was told
same_number : (n : ℕ) (R : Refusal) → refusal n ≡ refusing R → n ≡ number_of R
same_number n R e = cc

module _ (f : ℕ) (frame : List ℕ) where
  -- an accepted frame, its data in what the reader wrote, and how many bytes they are
  pub read_gives : (n : ℕ) (out : List ℕ) → gives (n ∷ []) ≡ slave_read f frame (length out)
      → (frame_check f frame ≡ 0) × (slave_read_out f frame out ≡ slave_data f frame ++ drop (data_bytes f) out) × (length (slave_data f frame) ≡ data_bytes f)
  unfolding slave_read_out
  read_gives n out t =
      let p = slave_accepted f frame (length out) n (sym t) in (
        simp (eq-eqb (length frame) (frame_bytes f) p.1, eq-eqb (right_blocks (blocks f) (block_bytes f) frame) (blocks f) p.2),
        sym (read_done f frame (length out) (λ k. out) (slave_data f frame ++ drop (data_bytes f) out) p.0 p.1 p.2 p.3),
        slave_data_length f frame p.1,
      )

  -- a refused frame, where the output has room, and an output as it was
  pub read_refuses : (out : List ℕ) (R : Refusal) → f ≤ 4 → data_bytes f ≤ length out → refusing R ≡ slave_read f frame (length out)
      → (frame_check f frame ≡ number_of R) × (eqb (number_of R) 0 ≡ false) × (slave_read_out f frame out ≡ out)
  unfolding slave_read slave_read_out
  read_refuses out R h k t =
      go (eqb (length frame) (frame_bytes f)) (all_right (blocks f) (block_bytes f) frame) (t ∙ simp (process_data_lem f h, le-ltb (length out) (data_bytes f) k)) (simp (process_data_lem f h, le-ltb (length out) (data_bytes f) k))
    where
      go : (a b : Bool) → refusing R ≡ cond (not a) (refusal 1) (cond (not b) (refusal 2) (gives (data_bytes f ∷ []))) → {x : List ℕ} → x ≡ cond (not a) out (cond (not b) out (slave_data f frame ++ drop (data_bytes f) out))
          → (cond (not a) 1 (cond (not b) 2 0) ≡ number_of R) × (eqb (number_of R) 0 ≡ false) × (x ≡ out)
      go true true t x = absurd (never_both (data_bytes f ∷ []) R (sym t))
      go true false t x = let e = same_number 2 R (sym t) in (e, ap (λ (n : ℕ). eqb n 0) (sym e), x)
      go false b t x = let e = same_number 1 R (sym t) in (e, ap (λ (n : ℕ). eqb n 0) (sym e), x)

-- what the writer answers and leaves, of data that has a port's bytes
pub written : (f : ℕ) (d out : List ℕ) → f ≤ 4 → length d ≡ data_bytes f
    → (slave_write f d (length out) ≡ answered (out_check f out) (frame_bytes f ∷ []))
    × (slave_write_out f d out ≡ unless_refused (out_check f out) (slave_frame f d ++ drop (frame_bytes f) out) out)
unfolding slave_write slave_write_out
written f d out h l = go (ltb (length out) (frame_bytes f)) (simp (process_data_lem f h, eq-eqb (length d) (data_bytes f) l)) (simp (process_data_lem f h, eq-eqb (length d) (data_bytes f) l))
  where
    go : (b : Bool) → {t : Told} → t ≡ cond b (refusal 4) (gives (frame_bytes f ∷ [])) → {x : List ℕ} → x ≡ cond b out (slave_frame f d ++ drop (frame_bytes f) out)
        → (t ≡ answered (cond b 4 0) (frame_bytes f ∷ [])) × (x ≡ unless_refused (cond b 4 0) (slave_frame f d ++ drop (frame_bytes f) out) out)
    go true t x = (t, x)
    go false t x = (t, x)

-- a frame that was written has at most 36 bytes
pub written_small : (f : ℕ) (d : List ℕ) (room : ℕ) (r : Result ℕ Refusal) → told single r ≡ slave_write f d room → MatchResult r (λ n. n < 65536) (λ _. Unit {0})
written_small f d room (Ok n) t = let p = slave_written f d room n (sym t) in omega (arith, p.3, whole_most f)
written_small f d room (Err r) t = tt
