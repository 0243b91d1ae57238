-- `Line::put` meets its promise: each turn copies one byte.
-- Assumes nothing.
use Prim.Native.Nat.{ℕ, ◌+◌, ◌≤◌}
use mathlib.Core.Path.{◌≡◌, ◌∙◌, ap, sym}
use mathlib.Core.List.{List}
use native.Mathlib.Omega.{arith}
use lib.ListN.{length, length-set, take}
use Rattle.list_text.specs.Inside.{wrote_at}
use Rattle.list_text.proofs.WroteLaws.{copied}
use Rattle.list_text.proofs.line.Line.put.Goals as goal

pub loop-i-preserved : goal.loop-i-preserved
loop-i-preserved c = let line : List ℕ = take c.self.inside.many c.self.inside.bytes in
    let at = c.args.at in
    let i = c.loop-i.i in
    let out = c.args.out.now in
    let inv = c.loop-i.invariant in
    let room : at + length line ≤ length out = omega (arith, inv.0, ap (λ (x : List ℕ). length x) c.self.view_is) in
    let so_far : c.loop-i.out ≡ wrote_at at (take i line) out = inv.2 ∙ ap (λ (x : List ℕ). wrote_at at (take i x) out) (sym c.self.view_is) in (
      inv.0,
      length-set _ _ _ ∙ inv.1,
      copied at i line out c.loop-i.out c.loop-i-test.true room inv.1 so_far ∙ ap (λ (x : List ℕ). wrote_at at (take (i + 1) x) out) c.self.view_is,
    )
