-- The orders of checks past the port's own: what is left of each, over what a walk showed.
-- Assumes nothing.
use Rattle.std.proofs.Common.{ℕ, ◌+◌, ◌-◌, ◌<◌, ◌≤◌, ◌≡◌, Bool, false, not, cond, refl, sym, ap, ap₂, subst, ◌∙◌, arith, List, [], ◌∷◌, ◌++◌, length, get_or, set, take, drop, eqb, ltb, Some}
use borrow.Author.Tests.{eq-eqb, ne_eqb, lt-ltb, le-ltb}
use lib.Seq.{take_all}
use Rattle.refusals.specs.Told.{Told, gives, refusal, refusing}
use Rattle.rows.specs.Rows.{data_bytes, frame_bytes}
use Rattle.frames.specs.Words.{f_code_of, address}
use Rattle.frames.specs.Slave.{slave_data, slave_frame, slave_write, slave_write_out}
use Rattle.port_table.specs.declared.Port.{Port}
use Rattle.port_table.specs.declared.Place.{Place}
use Rattle.port_table.specs.declared.Seen.{Seen}
use Rattle.port_table.specs.Table.{table_bytes, port_bytes, port_of, is_sink}
use Rattle.port_table.specs.Seen.{seen_of}
use Rattle.port_table.proofs.Walk.{shown_good}
use Rattle.ports.specs.Lent.{answered, unless_refused, port_data, replaced}
use Rattle.ports.specs.Arriving.{arrive_refusal, arrive, arrive_store, arrive_ages}
use Rattle.ports.specs.Answering.{answer_refusal, answer, answer_out}
use Rattle.ports.specs.Reading.{read_refusal, read, read_out, read_age}
use Rattle.ports.specs.Filling.{fill_refusal, fill, fill_store}
use Rattle.ports.specs.Inside.{frame_check, out_check}
use Rattle.refusals.specs.declared.Refusal.{Refusal}
use Rattle.ports.proofs.Outcomes.{accepted, refusal_keeps}
use Rattle.ports.proofs.Bytes.{part_length}
use Rattle.ports.proofs.Found.{shown_at}
use Rattle.ports.proofs.Frames.{written}

-- ---- answers

module _ {m n : ℕ} (e : m ≡ n) where
  pub answered_no : eqb n 0 ≡ false → (values : List ℕ) → refusal n ≡ answered m values
  answered_no p values = sym (ap (λ (k : ℕ). answered k values) e ∙ ap (λ (b : Bool). cond b (gives values) (refusal n)) p)

  pub kept : {A : Type 0} → eqb n 0 ≡ false → (new old : A) → old ≡ unless_refused m new old
  kept p new old = sym (ap (λ (k : ℕ). unless_refused k new old) e ∙ ap (λ (b : Bool). cond b new old) p)

pub answered_yes : {m : ℕ} → m ≡ 0 → (values : List ℕ) → gives values ≡ answered m values
answered_yes e values = sym (ap (λ (k : ℕ). answered k values) e)

pub changed : {A : Type 0} {m : ℕ} → m ≡ 0 → (new old : A) → new ≡ unless_refused m new old
changed e new old = sym (ap (λ (k : ℕ). unless_refused k new old) e)

-- ---- an arrival

module _ (ps : List Port) (store ages : List ℕ) (word : ℕ) (frame : List ℕ) where
  pub arrive_no : (n : ℕ) → arrive_refusal ps store ages word frame ≡ n → eqb n 0 ≡ false
      → (refusal n ≡ arrive ps store ages word frame) × (store ≡ arrive_store ps store ages word frame) × (ages ≡ arrive_ages ps store ages word frame)
  unfolding arrive arrive_store arrive_ages
  arrive_no n e p = (answered_no e p (0 ∷ []), kept e p _ store, kept e p _ ages)

  module _ (s : Seen) (e : Some s ≡ seen_of (address word) ps) where
    pub arrive_4 : length store < s.bytes → arrive_refusal ps store ages word frame ≡ 4
    unfolding arrive_refusal
    arrive_4 h = let g = shown_good s (address word) ps e in simp (g.0, lt-ltb (length store) (table_bytes ps) (subst (λ (t : Seen). length store < t.bytes) g.1 h))

    module _ (p : Place) (at : s.place ≡ Some p) (h1 : s.bytes ≤ length store) (h2 : s.count ≤ length ages) (h3 : f_code_of word ≤ 4) where
      pub arrive_on : arrive_refusal ps store ages word frame ≡ cond (not (eqb p.port.f_code (f_code_of word))) 16 (cond (not (is_sink p.port)) 17 (frame_check (f_code_of word) frame))
      unfolding arrive_refusal
      arrive_on =
          let g = shown_good s (address word) ps e in
          let q = shown_at s p (address word) ps e at in
          subst (λ (x : Port). arrive_refusal ps store ages word frame ≡ cond (not (eqb x.f_code (f_code_of word))) 16 (cond (not (is_sink x)) 17 (frame_check (f_code_of word) frame))) (sym (ap (λ (y : Place). y.port) q.1))
          (simp (g.0, le-ltb (length store) (table_bytes ps) (subst (λ (t : Seen). t.bytes ≤ length store) g.1 h1), le-ltb (length ages) (length ps) (subst (λ (t : Seen). t.count ≤ length ages) g.1 h2), le-ltb 4 (f_code_of word) h3, q.0))

      -- the port's own checks passed, with what is answered of the frame
      module _ (h5 : p.port.f_code ≡ f_code_of word) (h6 : p.port.sink ≡ 0 → ⊥) where
        abbrev check : ℕ
        check = frame_check (f_code_of word) frame

        abbrev new : List ℕ
        new = replaced p.offset (slave_data (f_code_of word) frame) store

        arrive_framed : arrive_refusal ps store ages word frame ≡ check
        arrive_framed = arrive_on ∙ simp (eq-eqb p.port.f_code (f_code_of word) h5, ne_eqb p.port.sink 0 h6)

        module _ (store' : List ℕ) (es : store' ≡ unless_refused check new store) where
          pub arrive_ok : gives (0 ∷ []) ≡ answered check (0 ∷ []) → (gives (0 ∷ []) ≡ arrive ps store ages word frame) × (store' ≡ arrive_store ps store ages word frame) × (set ages p.at 0 ≡ arrive_ages ps store ages word frame)
          unfolding arrive arrive_store arrive_ages
          arrive_ok t =
              let z = (accepted check (0 ∷ []) (0 ∷ []) (sym t)).0 in
              let k : arrive_refusal ps store ages word frame ≡ 0 = arrive_framed ∙ z in
              let q = (shown_at s p (address word) ps e at).1 in (
                answered_yes k (0 ∷ []),
                es ∙ sym (changed z new store) ∙ ap (λ (x : Place). replaced x.offset (slave_data (f_code_of word) frame) store) q ∙ changed k _ store,
                ap (λ (x : Place). set ages x.at 0) q ∙ changed k _ ages,
              )

          pub arrive_err : (R : Refusal) → refusing R ≡ answered check (0 ∷ []) → (refusing R ≡ arrive ps store ages word frame) × (store' ≡ arrive_store ps store ages word frame) × (ages ≡ arrive_ages ps store ages word frame)
          unfolding arrive arrive_store arrive_ages
          arrive_err R t =
              let m : ℕ = arrive_refusal ps store ages word frame in
              let k : refusing R ≡ answered m (0 ∷ []) = t ∙ ap (λ (n : ℕ). answered n (0 ∷ [])) (sym arrive_framed) in (
                k,
                es ∙ refusal_keeps check _ _ _ new store (sym t) ∙ sym (refusal_keeps m _ _ _ _ store (sym k)),
                sym (refusal_keeps m _ _ _ _ ages (sym k)),
              )

-- ---- an answer

module _ (ps : List Port) (store : List ℕ) (word : ℕ) (out : List ℕ) (s : Seen) (e : Some s ≡ seen_of (address word) ps) (p : Place) (at : s.place ≡ Some p)
    (h1 : s.bytes ≤ length store) (h3 : f_code_of word ≤ 4) (h5 : p.port.f_code ≡ f_code_of word) (h6 : p.port.sink ≡ 0) where
  answer_on : answer_refusal ps store word out ≡ out_check (f_code_of word) out
  unfolding answer_refusal
  answer_on =
      let g = shown_good s (address word) ps e in
      let q = shown_at s p (address word) ps e at in
      let x : p.port ≡ port_of (address word) ps = ap (λ (y : Place). y.port) q.1 in
      simp (g.0, le-ltb (length store) (table_bytes ps) (subst (λ (t : Seen). t.bytes ≤ length store) g.1 h1), le-ltb 4 (f_code_of word) h3, q.0, eq-eqb (port_of (address word) ps).f_code (f_code_of word) (ap (λ (y : Port). y.f_code) (sym x) ∙ h5), eq-eqb (port_of (address word) ps).sink 0 (ap (λ (y : Port). y.sink) (sym x) ∙ h6))

  pub answer_done : (size : ℕ) → size ≡ port_bytes p.port → (t : Told) → t ≡ slave_write (f_code_of word) (take (p.offset + size - p.offset) (drop p.offset store)) (length out)
      → (out' : List ℕ) → out' ≡ slave_write_out (f_code_of word) (take (p.offset + size - p.offset) (drop p.offset store)) out
      → (t ≡ answer ps store word out) × (out' ≡ answer_out ps store word out)
  unfolding answer answer_out port_data
  answer_done size es t et out' eo =
      let q = shown_at s p (address word) ps e at in
      let z : p.offset + size - p.offset ≡ port_bytes p.port = omega arith in
      let l : length (take (p.offset + size - p.offset) (drop p.offset store)) ≡ data_bytes (f_code_of word) = part_length p.offset size store (omega (arith, q.3, q.4, es)) ∙ es ∙ ap data_bytes h5 in
      let w = written (f_code_of word) (take (p.offset + size - p.offset) (drop p.offset store)) out h3 l in (
        et ∙ w.0 ∙ ap (λ (n : ℕ). answered n (frame_bytes (f_code_of word) ∷ [])) (sym answer_on),
        eo ∙ w.1 ∙ ap (λ (n : ℕ). unless_refused n (slave_frame (f_code_of word) (take (p.offset + size - p.offset) (drop p.offset store)) ++ drop (frame_bytes (f_code_of word)) out) out) (sym answer_on)
            ∙ ap (λ (d : List ℕ). unless_refused (answer_refusal ps store word out) (slave_frame (f_code_of word) d ++ drop (frame_bytes (f_code_of word)) out) out)
            (ap (λ (n : ℕ). take n (drop p.offset store)) z ∙ ap (λ (x : Place). take (port_bytes x.port) (drop x.offset store)) q.1),
      )

-- ---- a read

module _ (ps : List Port) (store ages : List ℕ) (a : ℕ) (out : List ℕ) (age : ℕ) (s : Seen) (e : Some s ≡ seen_of a ps) (p : Place) (at : s.place ≡ Some p)
    (h1 : s.bytes ≤ length store) (h2 : s.count ≤ length ages) where
  read_on : read_refusal ps store ages a out ≡ cond (not (is_sink p.port)) 17 (cond (ltb (length out) (port_bytes p.port)) 4 0)
  unfolding read_refusal
  read_on =
      let g = shown_good s a ps e in
      let q = shown_at s p a ps e at in
      subst (λ (x : Port). read_refusal ps store ages a out ≡ cond (not (is_sink x)) 17 (cond (ltb (length out) (port_bytes x)) 4 0)) (sym (ap (λ (y : Place). y.port) q.1))
      (simp (g.0, le-ltb (length store) (table_bytes ps) (subst (λ (t : Seen). t.bytes ≤ length store) g.1 h1), le-ltb (length ages) (length ps) (subst (λ (t : Seen). t.count ≤ length ages) g.1 h2), q.0))

  pub read_no : (n : ℕ) → read_refusal ps store ages a out ≡ n → eqb n 0 ≡ false → (refusal n ≡ read ps store ages a out) × (out ≡ read_out ps store ages a out) × (age ≡ read_age ps store ages a out age)
  unfolding read read_out read_age
  read_no n k p = (answered_no k p _, kept k p _ out, kept k p _ age)

  pub read_17 : p.port.sink ≡ 0 → (refusal 17 ≡ read ps store ages a out) × (out ≡ read_out ps store ages a out) × (age ≡ read_age ps store ages a out age)
  read_17 h = read_no 17 (read_on ∙ simp (eq-eqb p.port.sink 0 h)) refl

  module _ (h6 : p.port.sink ≡ 0 → ⊥) (size : ℕ) (es : size ≡ port_bytes p.port) where
    pub read_4 : length out < size → (refusal 4 ≡ read ps store ages a out) × (out ≡ read_out ps store ages a out) × (age ≡ read_age ps store ages a out age)
    read_4 h = read_no 4 (read_on ∙ simp (ne_eqb p.port.sink 0 h6, lt-ltb (length out) (port_bytes p.port) (subst (λ (n : ℕ). length out < n) es h))) refl

    pub read_done : size ≤ length out → (out' : List ℕ) → out' ≡ take (length out) (take (p.offset + size - p.offset) (drop p.offset store)) ++ drop (length (take (p.offset + size - p.offset) (drop p.offset store))) out
        → (gives (size ∷ []) ≡ read ps store ages a out) × (out' ≡ read_out ps store ages a out) × (get_or ages p.at 0 ≡ read_age ps store ages a out age)
    unfolding read read_out read_age port_data
    read_done room out' eo =
        let q = shown_at s p a ps e at in
        let k : read_refusal ps store ages a out ≡ 0 = read_on ∙ simp (ne_eqb p.port.sink 0 h6, le-ltb (length out) (port_bytes p.port) (subst (λ (n : ℕ). n ≤ length out) es room)) in
        let z : p.offset + size - p.offset ≡ port_bytes p.port = omega arith in
        let l : length (take (p.offset + size - p.offset) (drop p.offset store)) ≡ port_bytes p.port = part_length p.offset size store (omega (arith, q.3, q.4, es)) ∙ es in (
          ap (λ (n : ℕ). gives (n ∷ [])) (es ∙ ap (λ (x : Place). port_bytes x.port) q.1) ∙ answered_yes k _,
          eo ∙ ap (λ (d : List ℕ). d ++ drop (length (take (p.offset + size - p.offset) (drop p.offset store))) out) (take_all (length out) (take (p.offset + size - p.offset) (drop p.offset store)) (omega (arith, l, es)))
              ∙ ap₂ (λ (m n : ℕ). take m (drop p.offset store) ++ drop n out) z l ∙ ap (λ (x : Place). take (port_bytes x.port) (drop x.offset store) ++ drop (port_bytes x.port) out) q.1 ∙ changed k _ out,
          ap (λ (x : Place). get_or ages x.at 0) q.1 ∙ changed k _ age,
        )

-- ---- a fill

module _ (ps : List Port) (store : List ℕ) (a : ℕ) (d : List ℕ) (s : Seen) (e : Some s ≡ seen_of a ps) (p : Place) (at : s.place ≡ Some p)
    (h1 : s.bytes ≤ length store) (h6 : p.port.sink ≡ 0) (size : ℕ) (es : size ≡ port_bytes p.port) where
  pub fill_done : length d ≡ size → (store' : List ℕ) → store' ≡ replaced p.offset d store → (gives (0 ∷ []) ≡ fill ps store a d) × (store' ≡ fill_store ps store a d)
  unfolding fill fill_store fill_refusal
  fill_done h store' eo =
      let g = shown_good s a ps e in
      let q = shown_at s p a ps e at in
      let x : p.port ≡ port_of a ps = ap (λ (y : Place). y.port) q.1 in
      let k : fill_refusal ps store a d ≡ 0 =
      simp (g.0, le-ltb (length store) (table_bytes ps) (subst (λ (t : Seen). t.bytes ≤ length store) g.1 h1), q.0, eq-eqb (port_of a ps).sink 0 (ap (λ (y : Port). y.sink) (sym x) ∙ h6), eq-eqb (length d) (port_bytes (port_of a ps)) (h ∙ es ∙ ap port_bytes x)) in
      (answered_yes k (0 ∷ []), eo ∙ ap (λ (y : Place). replaced y.offset d store) q.1 ∙ changed k _ store)
