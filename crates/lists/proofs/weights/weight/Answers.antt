-- `weight` meets its promise: the telegram of a listed word is never refused.
-- Assumes nothing.
use native.Mathlib.Omega.{arith}
use mathlib.Core.Path.{◌≡◌, sym, ap, ◌∙◌}
use Rattle.refusals.specs.Told.{told, single}
use Rattle.timing.specs.Timing.{telegram_bits}
use Rattle.lists.proofs.TelegramLaws.{telegram_bits_lem, never_refused, telegram_range}
use Rattle.lists.proofs.weights.weight.Goals as goal

pub returns-in-Ok : goal.returns-in-Ok
returns-in-Ok c = let a = c.args in let e : c.in-Ok.bits ≡ telegram_bits a.f_code a.gap = telegram_bits_lem _ _ c.requires.0 c.requires.1 c.requires.2 _ (sym (ap (told single) c.in-Ok.is) ∙ c.telegram_bits.ensures) in (e, omega (arith, (telegram_range a.gap a.f_code c.requires.0).1, c.requires.2))

pub returns-in-Err : goal.returns-in-Err
returns-in-Err c = absurd (never_refused _ _ c.requires.0 c.requires.1 c.requires.2 c.in-Err.field-0 (sym (ap (told single) c.in-Err.is) ∙ c.telegram_bits.ensures))
