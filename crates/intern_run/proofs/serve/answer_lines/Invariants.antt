use denote.Shadow.{shadow}
use denote.Text.{Utf8}
use Rattle.std.proofs.Common.{◌≡◌, ◌++◌, length, string_bytes}
use Rattle.intern_run.specs.Answers.{answers_from}
use Rattle.intern_run.specs.Lines.{lines}
use Rattle.intern_run.proofs.serve.answer_lines.Given as goal

-- what was written and the answers to the lines that are left are what is to be written
abbrev pub invariant-loop-line : goal.invariant-loop-line
invariant-loop-line l =
    (string_bytes l.fn.out ++ answers_from l.fn.session (lines l.text)
    ≡ string_bytes l.out ++ answers_from l.session (lines l.rest)) × shadow (Utf8 l.rest)

abbrev pub decreases-loop-line : goal.decreases-loop-line
decreases-loop-line l = length l.rest
