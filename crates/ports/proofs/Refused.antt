-- "A refusal returns its number only; all lent bytes, numbers and records stay": of each of the five calls.
-- Assumes nothing.
use mathlib.Core.Path.{◌≡◌}
use mathlib.Core.List.{List}
use Prim.Native.Nat.{ℕ}
use Rattle.refusals.specs.Told.{refused}
use Rattle.port_table.specs.declared.Port.{Port}
use Rattle.ports.specs.Arriving.{arrive_refusal, arrive, arrive_store, arrive_ages}
use Rattle.ports.specs.Answering.{answer_refusal, answer, answer_out}
use Rattle.ports.specs.Reading.{read_refusal, read, read_out, read_age}
use Rattle.ports.specs.Filling.{fill_refusal, fill, fill_store}
use Rattle.ports.specs.Ticking.{tick_refusal, tick, tick_ages}
use Rattle.ports.proofs.Outcomes.{refusal_keeps}

module _ (ps : List Port) (n : ℕ) (v : List ℕ) where
  pub arrive_refused : (store ages : List ℕ) (word : ℕ) (frame : List ℕ) → arrive ps store ages word frame ≡ refused n v → (arrive_store ps store ages word frame ≡ store) × (arrive_ages ps store ages word frame ≡ ages)
  unfolding arrive arrive_store arrive_ages
  arrive_refused store ages word frame h = let m = arrive_refusal ps store ages word frame in (refusal_keeps m n _ v _ store h, refusal_keeps m n _ v _ ages h)

  pub answer_refused : (store : List ℕ) (word : ℕ) (out : List ℕ) → answer ps store word out ≡ refused n v → answer_out ps store word out ≡ out
  unfolding answer answer_out
  answer_refused store word out h = refusal_keeps (answer_refusal ps store word out) n _ v _ out h

  pub read_refused : (store ages : List ℕ) (a : ℕ) (out : List ℕ) (age : ℕ) → read ps store ages a out ≡ refused n v → (read_out ps store ages a out ≡ out) × (read_age ps store ages a out age ≡ age)
  unfolding read read_out read_age
  read_refused store ages a out age h = let m = read_refusal ps store ages a out in (refusal_keeps m n _ v _ out h, refusal_keeps m n _ v _ age h)

  pub fill_refused : (store : List ℕ) (a : ℕ) (d : List ℕ) → fill ps store a d ≡ refused n v → fill_store ps store a d ≡ store
  unfolding fill fill_store
  fill_refused store a d h = refusal_keeps (fill_refusal ps store a d) n _ v _ store h

  pub tick_refused : (ages : List ℕ) → tick ps ages ≡ refused n v → tick_ages ps ages ≡ ages
  unfolding tick tick_ages
  tick_refused ages h = refusal_keeps (tick_refusal ps ages) n _ v _ ages h
