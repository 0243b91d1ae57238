-- `Words::read`: after any words that the marks were of, those read so far are marked too, and what is left to read is what there was.
-- Assumes nothing.
use Rattle.std.proofs.Common.{◌≡◌, ◌++◌, ◌-◌, [], List, ℕ, length}
use Rattle.numbers.specs.Answers.{left}
use Rattle.lists.specs.Rules.{rules}
use Rattle.lists.specs.Reading.{words_in}
use Rattle.lists.specs.Marks.{SeenIs}
use Rattle.lists.proofs.words.Words.read.Given as goal

abbrev pub invariant-loop : goal.invariant-loop
invariant-loop l = record {
  many : length l.self ≡ l.counter;
  marked : (listed : List ℕ) → SeenIs l.fn.seen.marks listed → SeenIs l.seen.marks (listed ++ l.self);
  left : (listed : List ℕ) → SeenIs l.fn.seen.marks listed → words_in rules (l.count - l.counter) listed l.self (left l.reader) ≡ words_in rules l.count listed [] (left l.fn.reader);
}
