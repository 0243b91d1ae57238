-- What is shown of an entry point's promise, and how demand 1 and one result for one input follow.
-- Assumes nothing.
use mathlib.Core.Path.{◌≡◌, subst, sym}
use mathlib.Core.List.{List, [], ◌∷◌}
use mathlib.Core.Logic.{∥∥₁_map}
use seplogic.Ra.Ura.{Ura}
use base.Logic.{SProp, emp, ent, id⊢, sep, via, mono_l, mono_r, fst∗, snd∗, emp∗, comm∗}
use prog.Memory.{Memory}
use prog.Routine.{Routine, any_callee}
use types.Logic.{Logic, sem}
use contract.Lifetimes.{Lfts}
use contract.Monad.{fact, fact_i, fact_mono, fact_use, Fun}
use contract.Adequate.{sat_weaken}
use contract.Running.{alone, strict}
use denote.Ask.Run.{routine_mono}
use denote.Triple.Adequate.{adequate}
use denote.Triple.Entry.{Args, Res, on_entry}
use denote.Triple.Spec.{triple_of}
use denote.Triple.Clauses.{ClausesAt, Lasts, lasts, AtExit, at_exit, closing}
use denote.Triple.Weaken.{weaken_under}
use Rattle.demands.specs.EntryPoints.{EntryPoint}
use Rattle.demands.specs.Demand1.{Refusing, asked, Demanded, Returns, Promised, Each}
use Rattle.demands.specs.OneResult.{OneResult}

-- two clauses say both
pub two : {M : Type 1} (𝓤 : Ura M) (P Q : SProp 𝓤) (A B : Type 0) → ent 𝓤 P (fact 𝓤 A) → ent 𝓤 Q (fact 𝓤 B) → ent 𝓤 (sep 𝓤 P Q) (fact 𝓤 (A × B))
two 𝓤 P Q A B p q = fact_use 𝓤 A (via 𝓤 P (fst∗ 𝓤 P Q) p) (λ x. via 𝓤 (fact 𝓤 B) (via 𝓤 Q (snd∗ 𝓤 P Q) q) (fact_mono 𝓤 B (A × B) (λ y. (x, y))))

module _ (f : EntryPoint) where
  abbrev Lfs : Type 0
  Lfs = Lfts f.ended.signature.lifetimes

  abbrev Passed : Lfs → Type 0
  Passed κs = Args f.ended.signature κs

  abbrev Answer : Lfs → Type 0
  Answer κs = Res f.ended.signature κs

  -- the parameters at exit, with these last values
  abbrev left : (κs : Lfs) (a : Passed κs) → Lasts f.ended κs a → AtExit f.ended κs
  left κs a ws = at_exit f.ended κs a ws

  -- a promise in plain words: of what was passed, the answer, and what was passed as it is at exit
  abbrev pub Plain : Type 1
  Plain = (κs : Lfs) → Passed κs → Answer κs → AtExit f.ended κs → Type 0

  -- clauses that require nothing and ensure just this
  abbrev pub plainly : {M : Type 1} (𝓤 : Ura M) (κs : Lfs) → (Answer κs → AtExit f.ended κs → Type 0) → ClausesAt 𝓤 f.ended κs
  plainly 𝓤 κs Claim = record { ghost = Unit {0}; requires = λ g. emp 𝓤; ensures = λ g r e. fact 𝓤 (Claim r e) }

  -- what a promise says, and that it has no `requires`
  pub record Says : Type 3 where
    pub Claim : Plain
    pub free : (M : Type 1) (𝓤 : Ura M) (𝓛 : Logic 𝓤) (mem : Memory → SProp 𝓤) (run : Routine → Fun 𝓤) (κs : Lfs) (a : Passed κs)
        → (g : (f.promise 𝓛 mem run κs a).ghost) × ent 𝓤 (emp 𝓤) ((f.promise 𝓛 mem run κs a).requires g)
    pub claims : (M : Type 1) (𝓤 : Ura M) (𝓛 : Logic 𝓤) (mem : Memory → SProp 𝓤) (run : Routine → Fun 𝓤) (κs : Lfs) (a : Passed κs)
        (g : (f.promise 𝓛 mem run κs a).ghost) (r : Answer κs) (e : AtExit f.ended κs) → ent 𝓤 ((f.promise 𝓛 mem run κs a).ensures g r e) (fact 𝓤 (Claim κs a r e))

  -- a promise of one clause says that clause
  abbrev pub said : (Claim : Plain)
      → ((M : Type 1) (𝓤 : Ura M) (𝓛 : Logic 𝓤) (mem : Memory → SProp 𝓤) (run : Routine → Fun 𝓤) (κs : Lfs) (a : Passed κs) → f.promise 𝓛 mem run κs a ≡ plainly 𝓤 κs (Claim κs a))
      → Says
  said Claim is = record {
    Claim = Claim;
    free = λ M 𝓤 𝓛 mem run κs a.
        subst (λ (c : ClausesAt 𝓤 f.ended κs). (g : c.ghost) × ent 𝓤 (emp 𝓤) (c.requires g)) (sym (is M 𝓤 𝓛 mem run κs a)) (tt, id⊢ 𝓤 (emp 𝓤));
    claims = λ M 𝓤 𝓛 mem run κs a.
        subst (λ (c : ClausesAt 𝓤 f.ended κs). (g : c.ghost) (r : Answer κs) (e : AtExit f.ended κs) → ent 𝓤 (c.ensures g r e) (fact 𝓤 (Claim κs a r e)))
        (sym (is M 𝓤 𝓛 mem run κs a)) (λ g r e. id⊢ 𝓤 (fact 𝓤 (Claim κs a r e)));
  }

  -- what is shown of an entry point
  pub record Shown : Type 3 where
    pub promised : Promised f
    pub says : Says
    pub refusing : (κs : Lfs) (a : Passed κs) (r : Answer κs) (ws : Lasts f.ended κs a) → says.Claim κs a r (left κs a ws) → Refusing f.refuses (f.told κs r) (f.passed_back κs (left κs a ws) ≡ a)
    pub one : (κs : Lfs) (a : Passed κs) (r s : Answer κs) (ws vs : Lasts f.ended κs a) → says.Claim κs a r (left κs a ws) → says.Claim κs a s (left κs a vs) → (r ≡ s) × (ws ≡ vs)

  pub demanded : Shown → Demanded f
  demanded h M 𝓤 𝓛 𝓜 𝓡 =
      let free = h.says.free M 𝓤 𝓛 𝓜.mem 𝓡.returns in
      let claims = h.says.claims M 𝓤 𝓛 𝓜.mem 𝓡.returns in
      weaken_under 𝓛 f.ended (f.promise 𝓛 𝓜.mem 𝓡.returns) (asked 𝓤 f)
      (λ κs a g. (free κs a).0) (λ κs a g. Unit {0}) (λ κs a g. fact_i 𝓤 (Unit {0}) (emp 𝓤) tt) (λ κs a g _. (free κs a).1)
      (λ κs a g _ r ws.
      mono_r 𝓤 (sem 𝓛 (lasts f.ended κs a ws))
      (via 𝓤 (fact 𝓤 (h.says.Claim κs a r (left κs a ws))) (claims κs a _ r (left κs a ws)) (fact_mono 𝓤 _ _ (h.refusing κs a r ws))))
      (𝓡.run f.routine) (routine_mono 𝓤 𝓛.H 𝓜 𝓡 f.routine) (h.promised M 𝓤 𝓛 𝓜 𝓡)

  -- what meets the contract ends: the logic's adequacy, at tables in which every name means this function
  pub returns : Demanded f → Returns f
  unfolding alone
  returns d M 𝓤 𝓛 𝓜 𝓡 x before else s =
      let S = f.ended.signature in
      let E : SProp 𝓤 = on_entry 𝓛 S x.0 x.1 x.3 x.4 in
      ∥∥₁_map
      (adequate 𝓤 𝓛.H 𝓜 (alone 𝓤 𝓛.H 𝓜 (strict 𝓤 𝓛.H 𝓜 𝓡) f.routine) ((λ s a. a), tt) any_callee (triple_of 𝓛 S (closing 𝓛 f.ended (asked 𝓤 f))) (d M 𝓤 𝓛 𝓜 (strict 𝓤 𝓛.H 𝓜 𝓡)) (x, tt) before else
      (sat_weaken 𝓤 𝓛.H 𝓜 before (mono_l 𝓤 else (via 𝓤 (sep 𝓤 (emp 𝓤) E) (emp∗ 𝓤 E) (comm∗ 𝓤 (emp 𝓤) E))) s))
      (λ r. (r.0, r.1, r.2, r.3))

  pub one_result : Shown → OneResult f
  one_result h M 𝓤 𝓛 mem run κs a g r s ws vs =
      let E : Answer κs → Lasts f.ended κs a → SProp 𝓤 = λ x us. (f.promise 𝓛 mem run κs a).ensures g x (left κs a us) in
      let claims = h.says.claims M 𝓤 𝓛 mem run κs a g in
      fact_use 𝓤 (h.says.Claim κs a r (left κs a ws)) (via 𝓤 (E r ws) (fst∗ 𝓤 (E r ws) (E s vs)) (claims r (left κs a ws))) (λ c.
      via 𝓤 (fact 𝓤 (h.says.Claim κs a s (left κs a vs))) (via 𝓤 (E s vs) (snd∗ 𝓤 (E r ws) (E s vs)) (claims s (left κs a vs))) (fact_mono 𝓤 _ _ (λ d. h.one κs a r s ws vs c d)))

-- ---- of a whole table

abbrev pub EachShown : List EntryPoint → Type 3
EachShown [] = Unit {3}
EachShown (f ∷ fs) = Shown f × EachShown fs

pub each : (P : EntryPoint → Type 2) → ((f : EntryPoint) → Shown f → P f) → (fs : List EntryPoint) → EachShown fs → Each P fs
each P show [] hs = tt
each P show (f ∷ fs) hs = (show f hs.0, each P show fs hs.1)
