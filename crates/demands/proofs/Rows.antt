-- Each row of the table: the function's own theorem, and what follows from its promise.
-- Assumes nothing.
use mathlib.Core.Path.{◌≡◌, refl, sym, ap, ap₂, ◌∙◌}
use mathlib.Core.Bool.{not}
use mathlib.Core.List.{List, [], ◌∷◌, map}
use Prim.Native.Nat.{ℕ, ◌<◌}
use native.Mathlib.Omega.{arith}
use base.Logic.{emp, id⊢}
use contract.Monad.{fact}
use contract.Running.{within}
use lib.ListN.{length-map}
use denote.Ref.{at_last}
use Rattle.std.specs.Prelude.{Result, Ok, Err, OnErr}
use Rattle.refusals.specs.declared.Refusal.{Refusal}
use Rattle.refusals.specs.Told.{told, single}
use Rattle.refusals.proofs.Apart.{numbers_told_apart, never_both, refusals_apart}
use Rattle.refusals.proofs as refusals
use Rattle.refusals.proofs.Codes.{value_told, codes_apart}
use Rattle.checks.specs.Bits.{bits_of}
use Rattle.checks.specs.Check.{plain, check_bits, check_of as check_of_bytes}
use Rattle.checks.proofs.Numbers.{number_byte_lt}
use Rattle.checks.proofs.Parity.{length_plain}
use Rattle.checks.proofs as checks
use Rattle.rows.proofs as row-table
use Rattle.runs.proofs as runs
use Rattle.frames.proofs as frames
use Rattle.frames.specs.declared.LineAnswer.{LineAnswer}
use Rattle.frames.specs.declared.LineAnswer.TheVariants.{Silence, Reply, Collision}
use Rattle.frames.specs.Answers.{told_line}
use Rattle.frames.specs.Line.{answer_of}
use Rattle.frames.proofs.Apart.{lines_apart}
use Rattle.timing.proofs as timing
use Rattle.timing.proofs.Apart.{guards_apart}
use Rattle.groups.proofs as groups
use Rattle.rounds.proofs as rounds
use Rattle.rounds.proofs.Apart.{steps_apart}
use Rattle.search.proofs as search-of
use Rattle.search.proofs.Apart.{answers_apart}
use Rattle.numbers.specs.declared.Reader.{Reader}
use Rattle.numbers.specs.declared.Run.{Run}
use Rattle.numbers.specs.declared.Summed.{Summed}
use Rattle.numbers.proofs as numbers
use Rattle.numbers.specs.Number.{number_at as number_there}
use Rattle.numbers.specs.Answers.{value_then}
use Rattle.numbers.proofs.Answers.{numbers_apart}
use Rattle.lists.proofs as lists
use Rattle.lists.proofs.Apart.{checks_apart}
use Rattle.periods.proofs as periods
use Rattle.list_text.proofs as texts
use Rattle.port_table.proofs as port-table
use Rattle.ports.proofs as ports
use Rattle.mvb.proofs as mvb
use Rattle.demands.specs.EntryPoints as table
use Rattle.demands.specs.Demand1.{Refusing}
use Rattle.demands.proofs.Chains.{answers, told_so}
use Rattle.demands.proofs.RefusedCalls as calls
use Rattle.demands.proofs.RefusedLists as file
use Rattle.demands.proofs.RefusedPorts as port
use Rattle.demands.specs.Program.{program}
use Rattle.demands.proofs.Wired as has
use Rattle.demands.proofs.Shown.{said, two, Shown, EachShown}

-- the line's answer is no refusal
line_tells : {P : Type 0} (x : LineAnswer) → Refusing [] (told_line x) P
line_tells Silence = answers _
line_tells (Reply word) = answers _
line_tells Collision = answers _

-- a check sequence is a byte
check_small : (block : List ℕ) → check_of_bytes block < 65536
unfolding check_of_bytes check_bits
check_small block = let h = number_byte_lt (map not (plain (bits_of block))) (length-map (plain (bits_of block)) not ∙ length_plain (bits_of block)) in omega (arith, h)

-- a reader, and the numbers read or added up, by their fields
reader_is : {r s : Reader} → r.src ≡ s.src → r.at ≡ s.at → r ≡ s
reader_is e f i = record { src = e i; at = f i }

-- what a reader's next number tells is a refusal, after which it stands where it stood, or no refusal
read_refuses : {X : Type 0} (back : Reader → X) (r : Result ℕ Refusal) (old new : Reader) → told (value_then new.at) r ≡ number_there old.src.now old.at → new.src ≡ old.src
    → OnErr r (new.at ≡ old.at) → Refusing (5 ∷ []) (told single r) (back new ≡ back old)
read_refuses back (Ok value) old new c b e = answers _
read_refuses back (Err refusal) old new c b e = told_so c (λ u. ap back (reader_is b e)) (file.number old.src.now old.at)

-- what is told of a next number tells answers apart, and readers afterwards
read_is : (r s : Result ℕ Refusal) (old new new' : Reader) → told (value_then new.at) r ≡ told (value_then new'.at) s → new.src ≡ old.src → new'.src ≡ old.src
    → OnErr r (new.at ≡ old.at) → OnErr s (new'.at ≡ old.at) → (r ≡ s) × (new ≡ new')
read_is (Ok v) (Ok w) old new new' t b b' e e' =
    let same : v ≡ w = cc in
    let place : new.at ≡ new'.at = cc in
    (ap Ok same, reader_is (b ∙ sym b') place)
read_is (Ok v) (Err m) old new new' t b b' e e' = absurd (never_both (value_then new.at v) m t)
read_is (Err m) (Ok w) old new new' t b b' e e' = absurd (never_both (value_then new'.at w) m (sym t))
read_is (Err m) (Err n) old new new' t b b' e e' = (ap Err (refusals_apart m n t), reader_is (b ∙ sym b') (e ∙ sym e'))

sum_is : {r s : Summed} → r.total ≡ s.total → r.next ≡ s.next → r ≡ s
sum_is e f i = record { total = e i; next = f i }

run_is : {r s : Run} → r.count ≡ s.count → r.next ≡ s.next → r ≡ s
run_is e f i = record { count = e i; next = f i }

pub refusal_number : Shown table.refusal_number
refusal_number = record {
  promised = λ M 𝓤 𝓛 𝓜 𝓡. refusals.Refusal.number.Met.met 𝓤 𝓛 𝓜 (within 𝓤 𝓛.H 𝓜 𝓡 program) has.refusals_Refusal_number;
  says = said table.refusal_number _ (λ M 𝓤 𝓛 mem run κs a. refl);
  refusing = λ κs a r ws c. answers _;
  one = λ κs a r s ws vs c d. (c ∙ sym d, refl);
}

pub refusal_code : Shown table.refusal_code
refusal_code = record {
  promised = λ M 𝓤 𝓛 𝓜 𝓡. refusals.Refusal.code.Met.met 𝓤 𝓛 𝓜 (within 𝓤 𝓛.H 𝓜 𝓡 program) has.refusals_Refusal_code;
  says = said table.refusal_code _ (λ M 𝓤 𝓛 mem run κs a. refl);
  refusing = λ κs a r ws c. answers _;
  one = λ κs a r s ws vs c d. (c ∙ sym d, refl);
}

pub check_of : Shown table.check_of
check_of = record {
  promised = λ M 𝓤 𝓛 𝓜 𝓡. checks.check_of.Met.met 𝓤 𝓛 𝓜 (within 𝓤 𝓛.H 𝓜 𝓡 program) has.checks_check_of;
  says = said table.check_of _ (λ M 𝓤 𝓛 mem run κs a. refl);
  refusing = λ κs a r ws c. answers _;
  one = λ κs a r s ws vs c d. (c ∙ sym d, refl);
}

pub check_of_word : Shown table.check_of_word
check_of_word = record {
  promised = λ M 𝓤 𝓛 𝓜 𝓡. checks.check_of_word.Met.met 𝓤 𝓛 𝓜 (within 𝓤 𝓛.H 𝓜 𝓡 program) has.checks_check_of_word;
  says = said table.check_of_word _ (λ M 𝓤 𝓛 mem run κs a. refl);
  refusing = λ κs a r ws c. answers _;
  one = λ κs a r s ws vs c d. (c ∙ sym d, refl);
}

pub row_of : Shown table.row_of
row_of = record {
  promised = λ M 𝓤 𝓛 𝓜 𝓡. row-table.row_of.Met.met 𝓤 𝓛 𝓜 (within 𝓤 𝓛.H 𝓜 𝓡 program) has.rows_row_of;
  says = said table.row_of _ (λ M 𝓤 𝓛 mem run κs a. refl);
  refusing = λ κs a r ws c. answers _;
  one = λ κs a r s ws vs c d. (c ∙ sym d, refl);
}

pub copy_front : Shown table.copy_front
copy_front = record {
  promised = λ M 𝓤 𝓛 𝓜 𝓡. runs.copy_front.Met.met 𝓤 𝓛 𝓜 (within 𝓤 𝓛.H 𝓜 𝓡 program) has.runs_copy_front;
  says = said table.copy_front _ (λ M 𝓤 𝓛 mem run κs a. refl);
  refusing = λ κs a r ws c. answers _;
  one = λ κs a r s ws vs c d. (refl, ap (λ (x : List ℕ). (tt, (x, tt))) (c ∙ sym d));
}

pub master_read : Shown table.master_read
master_read = record {
  promised = λ M 𝓤 𝓛 𝓜 𝓡. frames.master_read.Met.met 𝓤 𝓛 𝓜 (within 𝓤 𝓛.H 𝓜 𝓡 program) has.frames_master_read;
  says = said table.master_read _ (λ M 𝓤 𝓛 mem run κs a. refl);
  refusing = λ κs a r ws c. told_so c (λ u. refl) (calls.master_read_lem a.0.now);
  one = λ κs a r s ws vs c d. (numbers_told_apart r s (c ∙ sym d), refl);
}

pub master_write : Shown table.master_write
master_write = record {
  promised = λ M 𝓤 𝓛 𝓜 𝓡. frames.master_write.Met.met 𝓤 𝓛 𝓜 (within 𝓤 𝓛.H 𝓜 𝓡 program) has.frames_master_write;
  says = said table.master_write _ (λ M 𝓤 𝓛 mem run κs a. refl);
  refusing = λ κs a r ws c. told_so c.0 (λ e. ap (λ (x : List ℕ). (a.0, (at_last a.1.0 x, tt))) (c.1 ∙ e)) (calls.master_write_lem a.0 a.1.0.now);
  one = λ κs a r s ws vs c d. (numbers_told_apart r s (c.0 ∙ sym d.0), ap (λ (x : List ℕ). (tt, (x, tt))) (c.1 ∙ sym d.1));
}

pub slave_read : Shown table.slave_read
slave_read = record {
  promised = λ M 𝓤 𝓛 𝓜 𝓡. frames.slave_read.Met.met 𝓤 𝓛 𝓜 (within 𝓤 𝓛.H 𝓜 𝓡 program) has.frames_slave_read;
  says = said table.slave_read _ (λ M 𝓤 𝓛 mem run κs a. refl);
  refusing = λ κs a r ws c. told_so c.0 (λ e. ap (λ (x : List ℕ). (a.0, (a.1.0, (at_last a.1.1.0 x, tt)))) (c.1 ∙ e)) (calls.slave_read_lem a.0 a.1.0.now a.1.1.0.now);
  one = λ κs a r s ws vs c d. (numbers_told_apart r s (c.0 ∙ sym d.0), ap (λ (x : List ℕ). (tt, (tt, (x, tt)))) (c.1 ∙ sym d.1));
}

pub slave_write : Shown table.slave_write
slave_write = record {
  promised = λ M 𝓤 𝓛 𝓜 𝓡. frames.slave_write.Met.met 𝓤 𝓛 𝓜 (within 𝓤 𝓛.H 𝓜 𝓡 program) has.frames_slave_write;
  says = said table.slave_write _ (λ M 𝓤 𝓛 mem run κs a. refl);
  refusing = λ κs a r ws c. told_so c.0 (λ e. ap (λ (x : List ℕ). (a.0, (a.1.0, (at_last a.1.1.0 x, tt)))) (c.1 ∙ e)) (calls.slave_write_lem a.0 a.1.0.now a.1.1.0.now);
  one = λ κs a r s ws vs c d. (numbers_told_apart r s (c.0 ∙ sym d.0), ap (λ (x : List ℕ). (tt, (tt, (x, tt)))) (c.1 ∙ sym d.1));
}

pub line_answer : Shown table.line_answer
line_answer = record {
  promised = λ M 𝓤 𝓛 𝓜 𝓡. frames.line_answer.Met.met 𝓤 𝓛 𝓜 (within 𝓤 𝓛.H 𝓜 𝓡 program) has.frames_line_answer;
  says = said table.line_answer _ (λ M 𝓤 𝓛 mem run κs a. refl);
  refusing = λ κs a r ws c. told_so c (λ u. u) (line_tells (answer_of a.0.now));
  one = λ κs a r s ws vs c d. (lines_apart r s (c ∙ sym d), refl);
}

pub mvb_check_of : Shown table.mvb_check_of
mvb_check_of = record {
  promised = λ M 𝓤 𝓛 𝓜 𝓡. mvb.frame_calls.mvb_check_of.Met.met 𝓤 𝓛 𝓜 (within 𝓤 𝓛.H 𝓜 𝓡 program) has.mvb_frame_calls_mvb_check_of;
  says = said table.mvb_check_of _ (λ M 𝓤 𝓛 mem run κs a. refl);
  refusing = λ κs a r ws c. told_so (value_told r (omega (arith, c, check_small a.0.now))) (λ u. u) (answers _);
  one = λ κs a r s ws vs c d. (c ∙ sym d, refl);
}

pub mvb_master_read : Shown table.mvb_master_read
mvb_master_read = record {
  promised = λ M 𝓤 𝓛 𝓜 𝓡. mvb.frame_calls.mvb_master_read.Met.met 𝓤 𝓛 𝓜 (within 𝓤 𝓛.H 𝓜 𝓡 program) has.mvb_frame_calls_mvb_master_read;
  says = said table.mvb_master_read _ (λ M 𝓤 𝓛 mem run κs a. refl);
  refusing = λ κs a r ws c. told_so c (λ u. refl) (calls.master_read_lem a.0.now);
  one = λ κs a r s ws vs c d. (codes_apart r s (c ∙ sym d), refl);
}

pub mvb_master_write : Shown table.mvb_master_write
mvb_master_write = record {
  promised = λ M 𝓤 𝓛 𝓜 𝓡. mvb.frame_calls.mvb_master_write.Met.met 𝓤 𝓛 𝓜 (within 𝓤 𝓛.H 𝓜 𝓡 program) has.mvb_frame_calls_mvb_master_write;
  says = said table.mvb_master_write _ (λ M 𝓤 𝓛 mem run κs a. refl);
  refusing = λ κs a r ws c. told_so c.0 (λ e. ap (λ (x : List ℕ). (a.0, (at_last a.1.0 x, tt))) (c.1 ∙ e)) (calls.master_write_lem a.0 a.1.0.now);
  one = λ κs a r s ws vs c d. (codes_apart r s (c.0 ∙ sym d.0), ap (λ (x : List ℕ). (tt, (x, tt))) (c.1 ∙ sym d.1));
}

pub mvb_slave_read : Shown table.mvb_slave_read
mvb_slave_read = record {
  promised = λ M 𝓤 𝓛 𝓜 𝓡. mvb.frame_calls.mvb_slave_read.Met.met 𝓤 𝓛 𝓜 (within 𝓤 𝓛.H 𝓜 𝓡 program) has.mvb_frame_calls_mvb_slave_read;
  says = said table.mvb_slave_read _ (λ M 𝓤 𝓛 mem run κs a. refl);
  refusing = λ κs a r ws c. told_so c.0 (λ e. ap (λ (x : List ℕ). (a.0, (a.1.0, (at_last a.1.1.0 x, tt)))) (c.1 ∙ e)) (calls.slave_read_lem a.0 a.1.0.now a.1.1.0.now);
  one = λ κs a r s ws vs c d. (codes_apart r s (c.0 ∙ sym d.0), ap (λ (x : List ℕ). (tt, (tt, (x, tt)))) (c.1 ∙ sym d.1));
}

pub mvb_slave_write : Shown table.mvb_slave_write
mvb_slave_write = record {
  promised = λ M 𝓤 𝓛 𝓜 𝓡. mvb.frame_calls.mvb_slave_write.Met.met 𝓤 𝓛 𝓜 (within 𝓤 𝓛.H 𝓜 𝓡 program) has.mvb_frame_calls_mvb_slave_write;
  says = said table.mvb_slave_write _ (λ M 𝓤 𝓛 mem run κs a. refl);
  refusing = λ κs a r ws c. told_so c.0 (λ e. ap (λ (x : List ℕ). (a.0, (a.1.0, (at_last a.1.1.0 x, tt)))) (c.1 ∙ e)) (calls.slave_write_lem a.0 a.1.0.now a.1.1.0.now);
  one = λ κs a r s ws vs c d. (codes_apart r s (c.0 ∙ sym d.0), ap (λ (x : List ℕ). (tt, (tt, (x, tt)))) (c.1 ∙ sym d.1));
}

pub telegram_bits : Shown table.telegram_bits
telegram_bits = record {
  promised = λ M 𝓤 𝓛 𝓜 𝓡. timing.telegram_bits.Met.met 𝓤 𝓛 𝓜 (within 𝓤 𝓛.H 𝓜 𝓡 program) has.timing_telegram_bits;
  says = said table.telegram_bits _ (λ M 𝓤 𝓛 mem run κs a. refl);
  refusing = λ κs a r ws c. told_so c (λ u. refl) (calls.telegram a.0 a.1.0);
  one = λ κs a r s ws vs c d. (numbers_told_apart r s (c ∙ sym d), refl);
}

pub guard : Shown table.guard
guard = record {
  promised = λ M 𝓤 𝓛 𝓜 𝓡. timing.guard.Met.met 𝓤 𝓛 𝓜 (within 𝓤 𝓛.H 𝓜 𝓡 program) has.timing_guard;
  says = said table.guard _ (λ M 𝓤 𝓛 mem run κs a. refl);
  refusing = λ κs a r ws c. told_so c (λ u. refl) (calls.guarded a.0 a.1.0 a.1.1.0);
  one = λ κs a r s ws vs c d. (guards_apart r s (c ∙ sym d), refl);
}

pub mvb_telegram_bits : Shown table.mvb_telegram_bits
mvb_telegram_bits = record {
  promised = λ M 𝓤 𝓛 𝓜 𝓡. mvb.timing_calls.mvb_telegram_bits.Met.met 𝓤 𝓛 𝓜 (within 𝓤 𝓛.H 𝓜 𝓡 program) has.mvb_timing_calls_mvb_telegram_bits;
  says = said table.mvb_telegram_bits _ (λ M 𝓤 𝓛 mem run κs a. refl);
  refusing = λ κs a r ws c. told_so c (λ u. refl) (calls.telegram a.0 a.1.0);
  one = λ κs a r s ws vs c d. (codes_apart r s (c ∙ sym d), refl);
}

pub mvb_guard : Shown table.mvb_guard
mvb_guard = record {
  promised = λ M 𝓤 𝓛 𝓜 𝓡. mvb.timing_calls.mvb_guard.Met.met 𝓤 𝓛 𝓜 (within 𝓤 𝓛.H 𝓜 𝓡 program) has.mvb_timing_calls_mvb_guard;
  says = said table.mvb_guard _ (λ M 𝓤 𝓛 mem run κs a. refl);
  refusing = λ κs a r ws c. told_so c (λ u. refl) (calls.guarded a.0 a.1.0 a.1.1.0);
  one = λ κs a r s ws vs c d. (codes_apart r s (c ∙ sym d), refl);
}

pub number_at : Shown table.number_at
number_at = record {
  promised = λ M 𝓤 𝓛 𝓜 𝓡. numbers.number_at.Met.met 𝓤 𝓛 𝓜 (within 𝓤 𝓛.H 𝓜 𝓡 program) has.numbers_number_at;
  says = said table.number_at _ (λ M 𝓤 𝓛 mem run κs a. refl);
  refusing = λ κs a r ws c. told_so c (λ u. refl) (file.number a.0.now a.1.0);
  one = λ κs a r s ws vs c d. (numbers_apart r s (c ∙ sym d), refl);
}

pub reader_new : Shown table.reader_new
reader_new = record {
  promised = λ M 𝓤 𝓛 𝓜 𝓡. numbers.Reader.new.Met.met 𝓤 𝓛 𝓜 (within 𝓤 𝓛.H 𝓜 𝓡 program) has.numbers_Reader_new;
  says = said table.reader_new _ (λ M 𝓤 𝓛 mem run κs a. refl);
  refusing = λ κs a r ws c. answers _;
  one = λ κs a r s ws vs c d. (reader_is (c.0 ∙ sym d.0) (c.1 ∙ sym d.1), refl);
}

pub reader_next : Shown table.reader_next
reader_next = record {
  promised = λ M 𝓤 𝓛 𝓜 𝓡. numbers.Reader.next.Met.met 𝓤 𝓛 𝓜 (within 𝓤 𝓛.H 𝓜 𝓡 program) has.numbers_Reader_next;
  says = said table.reader_next _ (λ M 𝓤 𝓛 mem run κs a. refl);
  refusing = λ κs a r ws c. told_so c (λ u. refl) (file.number a.0.src.now a.0.at);
  one = λ κs a r s ws vs c d. (numbers_apart r s (c ∙ sym d), refl);
}

pub reader_read : Shown table.reader_read
reader_read = record {
  promised = λ M 𝓤 𝓛 𝓜 𝓡. numbers.Reader.read.Met.met 𝓤 𝓛 𝓜 (within 𝓤 𝓛.H 𝓜 𝓡 program) has.numbers_Reader_read;
  says = record {
    Claim = _;
    free = λ M 𝓤 𝓛 mem run κs a. (tt, id⊢ 𝓤 (emp 𝓤));
    claims = λ M 𝓤 𝓛 mem run κs a g r e. two 𝓤 (fact 𝓤 _) _ _ _ (id⊢ 𝓤 (fact 𝓤 _)) (two 𝓤 (fact 𝓤 _) _ _ _ (id⊢ 𝓤 (fact 𝓤 _)) (two 𝓤 (fact 𝓤 _) (fact 𝓤 _) _ _ (id⊢ 𝓤 (fact 𝓤 _)) (id⊢ 𝓤 (fact 𝓤 _))));
  };
  refusing = λ κs a r ws c. read_refuses (λ (x : Reader). (at_last a.0 x, tt)) r a.0.now ws.0 c.0 c.1.0 c.1.1.0;
  one = λ κs a r s ws vs c d. let e = read_is r s a.0.now ws.0 vs.0 (c.0 ∙ sym d.0) c.1.0 d.1.0 c.1.1.0 d.1.1.0 in (e.0, ap (λ (x : Reader). (x, tt)) e.1);
}

pub read_number : Shown table.read_number
read_number = record {
  promised = λ M 𝓤 𝓛 𝓜 𝓡. numbers.read_number.Met.met 𝓤 𝓛 𝓜 (within 𝓤 𝓛.H 𝓜 𝓡 program) has.numbers_read_number;
  says = said table.read_number _ (λ M 𝓤 𝓛 mem run κs a. refl);
  refusing = λ κs a r ws c. told_so c (λ u. refl) (file.number a.0.now a.1.0);
  one = λ κs a r s ws vs c d. (numbers_apart r s (c ∙ sym d), refl);
}

pub read_numbers : Shown table.read_numbers
read_numbers = record {
  promised = λ M 𝓤 𝓛 𝓜 𝓡. numbers.read_numbers.Met.met 𝓤 𝓛 𝓜 (within 𝓤 𝓛.H 𝓜 𝓡 program) has.numbers_read_numbers;
  says = said table.read_numbers _ (λ M 𝓤 𝓛 mem run κs a. refl);
  refusing = λ κs a r ws c. answers _;
  one = λ κs a r s ws vs c d. (run_is (c.0 ∙ sym d.0) (c.1 ∙ sym d.1), ap (λ (x : List ℕ). (tt, (tt, (x, tt)))) (c.2 ∙ sym d.2));
}

pub sum_numbers : Shown table.sum_numbers
sum_numbers = record {
  promised = λ M 𝓤 𝓛 𝓜 𝓡. numbers.sum_numbers.Met.met 𝓤 𝓛 𝓜 (within 𝓤 𝓛.H 𝓜 𝓡 program) has.numbers_sum_numbers;
  says = said table.sum_numbers _ (λ M 𝓤 𝓛 mem run κs a. refl);
  refusing = λ κs a r ws c. answers _;
  one = λ κs a r s ws vs c d. (sum_is (c.0 ∙ sym d.0) (c.1 ∙ sym d.1), refl);
}

pub cycles_of : Shown table.cycles_of
cycles_of = record {
  promised = λ M 𝓤 𝓛 𝓜 𝓡. lists.cycles_of.Met.met 𝓤 𝓛 𝓜 (within 𝓤 𝓛.H 𝓜 𝓡 program) has.lists_cycles_of;
  says = said table.cycles_of _ (λ M 𝓤 𝓛 mem run κs a. refl);
  refusing = λ κs a r ws c. answers _;
  one = λ κs a r s ws vs c d. (c ∙ sym d, refl);
}

pub periods_of : Shown table.periods_of
periods_of = record {
  promised = λ M 𝓤 𝓛 𝓜 𝓡. lists.periods_of.Met.met 𝓤 𝓛 𝓜 (within 𝓤 𝓛.H 𝓜 𝓡 program) has.lists_periods_of;
  says = said table.periods_of _ (λ M 𝓤 𝓛 mem run κs a. refl);
  refusing = λ κs a r ws c. answers _;
  one = λ κs a r s ws vs c d. (c ∙ sym d, refl);
}

pub list_check : Shown table.list_check
list_check = record {
  promised = λ M 𝓤 𝓛 𝓜 𝓡. lists.list_check.Met.met 𝓤 𝓛 𝓜 (within 𝓤 𝓛.H 𝓜 𝓡 program) has.lists_list_check;
  says = said table.list_check _ (λ M 𝓤 𝓛 mem run κs a. refl);
  refusing = λ κs a r ws c. told_so c (λ u. refl) (file.list_check_lem a.0.now);
  one = λ κs a r s ws vs c d. (checks_apart r s (c ∙ sym d), refl);
}

pub basic_period : Shown table.basic_period
basic_period = record {
  promised = λ M 𝓤 𝓛 𝓜 𝓡. periods.basic_period.Met.met 𝓤 𝓛 𝓜 (within 𝓤 𝓛.H 𝓜 𝓡 program) has.periods_basic_period;
  says = said table.basic_period _ (λ M 𝓤 𝓛 mem run κs a. refl);
  refusing = λ κs a r ws c. told_so c.0 (λ e. ap (λ (x : List ℕ). (a.0, (a.1.0, (at_last a.1.1.0 x, tt)))) (c.1 ∙ e)) (file.basic_period_lem a.0.now a.1.0 a.1.1.0.now);
  one = λ κs a r s ws vs c d. (numbers_told_apart r s (c.0 ∙ sym d.0), ap (λ (x : List ℕ). (tt, (tt, (x, tt)))) (c.1 ∙ sym d.1));
}

pub list_text : Shown table.list_text
list_text = record {
  promised = λ M 𝓤 𝓛 𝓜 𝓡. texts.list_text.Met.met 𝓤 𝓛 𝓜 (within 𝓤 𝓛.H 𝓜 𝓡 program) has.list_text_list_text;
  says = said table.list_text _ (λ M 𝓤 𝓛 mem run κs a. refl);
  refusing = λ κs a r ws c. told_so c.0 (λ e. ap (λ (x : List ℕ). (a.0, (at_last a.1.0 x, tt))) (c.1 ∙ e)) (file.list_text_lem a.0.now a.1.0.now);
  one = λ κs a r s ws vs c d. (numbers_told_apart r s (c.0 ∙ sym d.0), ap (λ (x : List ℕ). (tt, (x, tt))) (c.1 ∙ sym d.1));
}

pub mvb_list_check : Shown table.mvb_list_check
mvb_list_check = record {
  promised = λ M 𝓤 𝓛 𝓜 𝓡. mvb.list_calls.mvb_list_check.Met.met 𝓤 𝓛 𝓜 (within 𝓤 𝓛.H 𝓜 𝓡 program) has.mvb_list_calls_mvb_list_check;
  says = record {
    Claim = _;
    free = λ M 𝓤 𝓛 mem run κs a. (tt, id⊢ 𝓤 (emp 𝓤));
    claims = λ M 𝓤 𝓛 mem run κs a g r e. two 𝓤 (fact 𝓤 _) _ _ _ (id⊢ 𝓤 (fact 𝓤 _)) (two 𝓤 (fact 𝓤 _) _ _ _ (id⊢ 𝓤 (fact 𝓤 _)) (two 𝓤 (fact 𝓤 _) (fact 𝓤 _) _ _ (id⊢ 𝓤 (fact 𝓤 _)) (id⊢ 𝓤 (fact 𝓤 _))));
  };
  refusing = λ κs a r ws c.
      told_so c.0
      (λ e i. (a.0, (at_last a.1.0 ((c.1.0 ∙ e.0) i), (at_last a.1.1.0 ((c.1.1.0 ∙ e.1) i), (at_last a.1.1.1.0 ((c.1.1.1 ∙ e.2) i), tt)))))
      (file.mvb_list_check_lem a.0.now a.1.0.now a.1.1.0.now a.1.1.1.0.now);
  one = λ κs a r s ws vs c d.
      (codes_apart r s (c.0 ∙ sym d.0), λ i. (tt, ((c.1.0 ∙ sym d.1.0) i, ((c.1.1.0 ∙ sym d.1.1.0) i, ((c.1.1.1 ∙ sym d.1.1.1) i, tt)))));
}

pub mvb_basic_period : Shown table.mvb_basic_period
mvb_basic_period = record {
  promised = λ M 𝓤 𝓛 𝓜 𝓡. mvb.list_calls.mvb_basic_period.Met.met 𝓤 𝓛 𝓜 (within 𝓤 𝓛.H 𝓜 𝓡 program) has.mvb_list_calls_mvb_basic_period;
  says = said table.mvb_basic_period _ (λ M 𝓤 𝓛 mem run κs a. refl);
  refusing = λ κs a r ws c. told_so c.0 (λ e. ap (λ (x : List ℕ). (a.0, (a.1.0, (at_last a.1.1.0 x, tt)))) (c.1 ∙ e)) (file.basic_period_lem a.0.now a.1.0 a.1.1.0.now);
  one = λ κs a r s ws vs c d. (codes_apart r s (c.0 ∙ sym d.0), ap (λ (x : List ℕ). (tt, (tt, (x, tt)))) (c.1 ∙ sym d.1));
}

pub mvb_list_text : Shown table.mvb_list_text
mvb_list_text = record {
  promised = λ M 𝓤 𝓛 𝓜 𝓡. mvb.list_calls.mvb_list_text.Met.met 𝓤 𝓛 𝓜 (within 𝓤 𝓛.H 𝓜 𝓡 program) has.mvb_list_calls_mvb_list_text;
  says = said table.mvb_list_text _ (λ M 𝓤 𝓛 mem run κs a. refl);
  refusing = λ κs a r ws c. told_so c.0 (λ e. ap (λ (x : List ℕ). (a.0, (at_last a.1.0 x, tt))) (c.1 ∙ e)) (file.list_text_lem a.0.now a.1.0.now);
  one = λ κs a r s ws vs c d. (codes_apart r s (c.0 ∙ sym d.0), ap (λ (x : List ℕ). (tt, (x, tt))) (c.1 ∙ sym d.1));
}

pub look : Shown table.look
look = record {
  promised = λ M 𝓤 𝓛 𝓜 𝓡. port-table.look.Met.met 𝓤 𝓛 𝓜 (within 𝓤 𝓛.H 𝓜 𝓡 program) has.port_table_look;
  says = said table.look _ (λ M 𝓤 𝓛 mem run κs a. refl);
  refusing = λ κs a r ws c. answers _;
  one = λ κs a r s ws vs c d. (c ∙ sym d, refl);
}

pub test_table : Shown table.test_table
test_table = record {
  promised = λ M 𝓤 𝓛 𝓜 𝓡. port-table.test_table.Met.met 𝓤 𝓛 𝓜 (within 𝓤 𝓛.H 𝓜 𝓡 program) has.port_table_test_table;
  says = said table.test_table _ (λ M 𝓤 𝓛 mem run κs a. refl);
  refusing = λ κs a r ws c. answers _;
  one = λ κs a r s ws vs c d. (c ∙ sym d, refl);
}

pub mvb_arrive : Shown table.mvb_arrive
mvb_arrive = record {
  promised = λ M 𝓤 𝓛 𝓜 𝓡. ports.mvb_arrive.Met.met 𝓤 𝓛 𝓜 (within 𝓤 𝓛.H 𝓜 𝓡 program) has.ports_mvb_arrive;
  says = said table.mvb_arrive _ (λ M 𝓤 𝓛 mem run κs a. refl);
  refusing = λ κs a r ws c. told_so c.0 (λ e. ap₂ (λ (x y : List ℕ). (a.0, (at_last a.1.0 x, (at_last a.1.1.0 y, a.1.1.1)))) (c.1 ∙ e.0) (c.2 ∙ e.1)) (port.mvb_arrive_lem a.0.now a.1.0.now a.1.1.0.now a.1.1.1.0 a.1.1.1.1.0.now);
  one = λ κs a r s ws vs c d. (codes_apart r s (c.0 ∙ sym d.0), ap₂ (λ (x y : List ℕ). (tt, (x, (y, (tt, (tt, tt)))))) (c.1 ∙ sym d.1) (c.2 ∙ sym d.2));
}

pub mvb_answer : Shown table.mvb_answer
mvb_answer = record {
  promised = λ M 𝓤 𝓛 𝓜 𝓡. ports.mvb_answer.Met.met 𝓤 𝓛 𝓜 (within 𝓤 𝓛.H 𝓜 𝓡 program) has.ports_mvb_answer;
  says = said table.mvb_answer _ (λ M 𝓤 𝓛 mem run κs a. refl);
  refusing = λ κs a r ws c. told_so c.0 (λ e. ap (λ (x : List ℕ). (a.0, (a.1.0, (a.1.1.0, (at_last a.1.1.1.0 x, tt))))) (c.1 ∙ e)) (port.mvb_answer_lem a.0.now a.1.0.now a.1.1.0 a.1.1.1.0.now);
  one = λ κs a r s ws vs c d. (codes_apart r s (c.0 ∙ sym d.0), ap (λ (x : List ℕ). (tt, (tt, (tt, (x, tt))))) (c.1 ∙ sym d.1));
}

pub mvb_read : Shown table.mvb_read
mvb_read = record {
  promised = λ M 𝓤 𝓛 𝓜 𝓡. ports.mvb_read.Met.met 𝓤 𝓛 𝓜 (within 𝓤 𝓛.H 𝓜 𝓡 program) has.ports_mvb_read;
  says = said table.mvb_read _ (λ M 𝓤 𝓛 mem run κs a. refl);
  refusing = λ κs a r ws c. told_so c.0 (λ e. ap₂ (λ (x : List ℕ) (y : ℕ). (a.0, (a.1.0, (a.1.1.0, (a.1.1.1.0, (at_last a.1.1.1.1.0 x, (at_last a.1.1.1.1.1.0 y, tt))))))) (c.1 ∙ e.0) (c.2 ∙ e.1)) (port.mvb_read_lem a.0.now a.1.0.now a.1.1.0.now a.1.1.1.0 a.1.1.1.1.0.now a.1.1.1.1.1.0.now);
  one = λ κs a r s ws vs c d. (codes_apart r s (c.0 ∙ sym d.0), ap₂ (λ (x : List ℕ) (y : ℕ). (tt, (tt, (tt, (tt, (x, (y, tt))))))) (c.1 ∙ sym d.1) (c.2 ∙ sym d.2));
}

pub mvb_fill : Shown table.mvb_fill
mvb_fill = record {
  promised = λ M 𝓤 𝓛 𝓜 𝓡. ports.mvb_fill.Met.met 𝓤 𝓛 𝓜 (within 𝓤 𝓛.H 𝓜 𝓡 program) has.ports_mvb_fill;
  says = said table.mvb_fill _ (λ M 𝓤 𝓛 mem run κs a. refl);
  refusing = λ κs a r ws c. told_so c.0 (λ e. ap (λ (x : List ℕ). (a.0, (at_last a.1.0 x, a.1.1))) (c.1 ∙ e)) (port.mvb_fill_lem a.0.now a.1.0.now a.1.1.0 a.1.1.1.0.now);
  one = λ κs a r s ws vs c d. (codes_apart r s (c.0 ∙ sym d.0), ap (λ (x : List ℕ). (tt, (x, (tt, (tt, tt))))) (c.1 ∙ sym d.1));
}

pub mvb_tick : Shown table.mvb_tick
mvb_tick = record {
  promised = λ M 𝓤 𝓛 𝓜 𝓡. ports.mvb_tick.Met.met 𝓤 𝓛 𝓜 (within 𝓤 𝓛.H 𝓜 𝓡 program) has.ports_mvb_tick;
  says = said table.mvb_tick _ (λ M 𝓤 𝓛 mem run κs a. refl);
  refusing = λ κs a r ws c. told_so c.0 (λ e. ap (λ (x : List ℕ). (a.0, (at_last a.1.0 x, tt))) (c.1 ∙ e)) (port.mvb_tick_lem a.0.now a.1.0.now);
  one = λ κs a r s ws vs c d. (codes_apart r s (c.0 ∙ sym d.0), ap (λ (x : List ℕ). (tt, (x, tt))) (c.1 ∙ sym d.1));
}

pub bound : Shown table.bound
bound = record {
  promised = λ M 𝓤 𝓛 𝓜 𝓡. groups.bound.Met.met 𝓤 𝓛 𝓜 (within 𝓤 𝓛.H 𝓜 𝓡 program) has.groups_bound;
  says = said table.bound _ (λ M 𝓤 𝓛 mem run κs a. refl);
  refusing = λ κs a r ws c. answers _;
  one = λ κs a r s ws vs c d. (c ∙ sym d, refl);
}

pub is_group : Shown table.is_group
is_group = record {
  promised = λ M 𝓤 𝓛 𝓜 𝓡. groups.is_group.Met.met 𝓤 𝓛 𝓜 (within 𝓤 𝓛.H 𝓜 𝓡 program) has.groups_is_group;
  says = said table.is_group _ (λ M 𝓤 𝓛 mem run κs a. refl);
  refusing = λ κs a r ws c. answers _;
  one = λ κs a r s ws vs c d. (c ∙ sym d, refl);
}

pub in_group : Shown table.in_group
in_group = record {
  promised = λ M 𝓤 𝓛 𝓜 𝓡. groups.in_group.Met.met 𝓤 𝓛 𝓜 (within 𝓤 𝓛.H 𝓜 𝓡 program) has.groups_in_group;
  says = said table.in_group _ (λ M 𝓤 𝓛 mem run κs a. refl);
  refusing = λ κs a r ws c. answers _;
  one = λ κs a r s ws vs c d. (c ∙ sym d, refl);
}

pub round_start : Shown table.round_start
round_start = record {
  promised = λ M 𝓤 𝓛 𝓜 𝓡. rounds.Round.start.Met.met 𝓤 𝓛 𝓜 (within 𝓤 𝓛.H 𝓜 𝓡 program) has.rounds_Round_start;
  says = said table.round_start _ (λ M 𝓤 𝓛 mem run κs a. refl);
  refusing = λ κs a r ws c. told_so c (λ u. refl) (calls.round_start a.0);
  one = λ κs a r s ws vs c d. (steps_apart r s (c ∙ sym d), refl);
}

pub round_answer : Shown table.round_answer
round_answer = record {
  promised = λ M 𝓤 𝓛 𝓜 𝓡. rounds.Round.answer.Met.met 𝓤 𝓛 𝓜 (within 𝓤 𝓛.H 𝓜 𝓡 program) has.rounds_Round_answer;
  says = said table.round_answer _ (λ M 𝓤 𝓛 mem run κs a. refl);
  refusing = λ κs a r ws c. told_so c (λ u. refl) (calls.round_answer_lem a.0 a.1.0);
  one = λ κs a r s ws vs c d. (steps_apart r s (c ∙ sym d), refl);
}

pub search_set : Shown table.search_set
search_set = record {
  promised = λ M 𝓤 𝓛 𝓜 𝓡. search-of.search_set.Met.met 𝓤 𝓛 𝓜 (within 𝓤 𝓛.H 𝓜 𝓡 program) has.search_search_set;
  says = record {
    Claim = _;
    free = λ M 𝓤 𝓛 mem run κs a. (tt, id⊢ 𝓤 (emp 𝓤));
    claims = λ M 𝓤 𝓛 mem run κs a g r e. two 𝓤 (fact 𝓤 _) (fact 𝓤 _) _ _ (id⊢ 𝓤 (fact 𝓤 _)) (id⊢ 𝓤 (fact 𝓤 _));
  };
  refusing = λ κs a r ws c. told_so c.0 (λ e. ap (λ (x : List ℕ). (a.0, (at_last a.1.0 x, tt))) (c.1 ∙ e)) (calls.search_set_lem a.0.now a.1.0.now);
  one = λ κs a r s ws vs c d. (answers_apart r s (c.0 ∙ sym d.0), ap (λ (x : List ℕ). (tt, (x, tt))) (c.1 ∙ sym d.1));
}

pub mvb_round_start : Shown table.mvb_round_start
mvb_round_start = record {
  promised = λ M 𝓤 𝓛 𝓜 𝓡. mvb.round_calls.mvb_round_start.Met.met 𝓤 𝓛 𝓜 (within 𝓤 𝓛.H 𝓜 𝓡 program) has.mvb_round_calls_mvb_round_start;
  says = said table.mvb_round_start _ (λ M 𝓤 𝓛 mem run κs a. refl);
  refusing = λ κs a r ws c. told_so c.0 (λ e. ap (λ (x : List ℕ). (a.0, (at_last a.1.0 x, tt))) (c.1 ∙ e)) (calls.mvb_round_start_lem a.0 a.1.0.now);
  one = λ κs a r s ws vs c d. (codes_apart r s (c.0 ∙ sym d.0), ap (λ (x : List ℕ). (tt, (x, tt))) (c.1 ∙ sym d.1));
}

pub mvb_round_answer : Shown table.mvb_round_answer
mvb_round_answer = record {
  promised = λ M 𝓤 𝓛 𝓜 𝓡. mvb.round_calls.mvb_round_answer.Met.met 𝓤 𝓛 𝓜 (within 𝓤 𝓛.H 𝓜 𝓡 program) has.mvb_round_calls_mvb_round_answer;
  says = said table.mvb_round_answer _ (λ M 𝓤 𝓛 mem run κs a. refl);
  refusing = λ κs a r ws c. told_so c.0 (λ e. ap (λ (x : List ℕ). (at_last a.0 x, a.1)) (c.1 ∙ e)) (calls.mvb_round_answer_lem a.0.now a.1.0.now);
  one = λ κs a r s ws vs c d. (codes_apart r s (c.0 ∙ sym d.0), ap (λ (x : List ℕ). (x, (tt, tt))) (c.1 ∙ sym d.1));
}

pub mvb_search : Shown table.mvb_search
mvb_search = record {
  promised = λ M 𝓤 𝓛 𝓜 𝓡. mvb.round_calls.mvb_search.Met.met 𝓤 𝓛 𝓜 (within 𝓤 𝓛.H 𝓜 𝓡 program) has.mvb_round_calls_mvb_search;
  says = record {
    Claim = _;
    free = λ M 𝓤 𝓛 mem run κs a. (tt, id⊢ 𝓤 (emp 𝓤));
    claims = λ M 𝓤 𝓛 mem run κs a g r e. two 𝓤 (fact 𝓤 _) _ _ _ (id⊢ 𝓤 (fact 𝓤 _)) (two 𝓤 (fact 𝓤 _) (fact 𝓤 _) _ _ (id⊢ 𝓤 (fact 𝓤 _)) (id⊢ 𝓤 (fact 𝓤 _)));
  };
  refusing = λ κs a r ws c. told_so c.0 (λ e. ap₂ (λ (x : List ℕ) (y : ℕ). (a.0, (at_last a.1.0 x, (at_last a.1.1.0 y, tt)))) (c.1.0 ∙ e.0) (c.1.1 ∙ e.1)) (calls.mvb_search_lem a.0.now a.1.0.now a.1.1.0.now);
  one = λ κs a r s ws vs c d. (codes_apart r s (c.0 ∙ sym d.0), ap₂ (λ (x : List ℕ) (y : ℕ). (tt, (x, (y, tt)))) (c.1.0 ∙ sym d.1.0) (c.1.1 ∙ sym d.1.1));
}

-- all of them, in the order of the table
pub rows : EachShown table.entry_points
rows =
    (refusal_number, (refusal_code, (check_of, (check_of_word, (row_of, (copy_front, (master_read, (master_write, (slave_read, (slave_write, (line_answer, (mvb_check_of, (mvb_master_read, (mvb_master_write, (mvb_slave_read, (mvb_slave_write, (telegram_bits, (guard, (mvb_telegram_bits, (mvb_guard, (number_at, (reader_new, (reader_next, (reader_read, (read_number, (read_numbers, (sum_numbers, (cycles_of, (periods_of, (list_check, (basic_period, (list_text, (mvb_list_check, (mvb_basic_period, (mvb_list_text, (look, (test_table, (mvb_arrive, (mvb_answer, (mvb_read, (mvb_fill, (mvb_tick, (bound, (is_group, (in_group, (round_start, (round_answer, (search_set, (mvb_round_start, (mvb_round_answer, (mvb_search, tt)))))))))))))))))))))))))))))))))))))))))))))))))))
