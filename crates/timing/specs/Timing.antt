-- How long a telegram takes, and the guard (document 01, "What a Basic Period sends").
-- Assumes nothing.
use Rattle.std.specs.Prelude.{Bool, cond, not, ◌&&◌, [], ◌∷◌, ℕ, ◌+◌, leb}
use Rattle.refusals.specs.Told.{Told, gives, refusal}
use Rattle.rows.specs.Rows.{reserved, line_bits}

-- "A telegram takes 33 + line bits of its Slave Frame + gap"
unfoldable pub telegram_bits : ℕ → ℕ → ℕ
telegram_bits f gap = 33 + line_bits f + gap

-- "the gap per telegram in bit times, 4 to 128"
abbrev pub gap_in_range : ℕ → Bool
gap_in_range gap = leb 4 gap && leb gap 128

-- "Refused: 3, then 6 for a gap outside 4 to 128"
abbrev pub timed_by {ℓ} : {A : Type ℓ} → ℕ → ℕ → (ℕ → A) → A → A
timed_by f gap refused done = cond (reserved f) (refused 3) (cond (not (gap_in_range gap)) (refused 6) done)

-- what asking for a telegram's time answers
unfoldable pub telegram_answer : ℕ → ℕ → Told
telegram_answer f gap = timed_by f gap refusal (gives (telegram_bits f gap ∷ []))

-- "yes", as a number
abbrev pub may : Told
may = gives (1 ∷ [])

-- and no
abbrev pub may_not : Told
may_not = gives (0 ∷ [])

-- "with r bit times left, a gap and an F_code, yes exactly if that telegram takes at most r"
unfoldable pub guard_answer : ℕ → ℕ → ℕ → Told
guard_answer left gap f = timed_by f gap refusal (cond (leb (telegram_bits f gap) left) may may_not)
