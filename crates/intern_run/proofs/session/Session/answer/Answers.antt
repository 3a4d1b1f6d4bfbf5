use Rattle.std.proofs.Common.{◌≡◌, Err, arith, refl}
use Rattle.intern_run.specs.Answers.{reply, word_reply, bad_command}
use Rattle.intern_run.proofs.Reply.{reply-one, reply-word, reply-none, replied-told}
use Rattle.intern_run.specs.declared.answer.CommandError.TheVariants.{BadCommand}
use Rattle.intern_run.proofs.session.Session.answer.Goals as goal
use Rattle.intern_run.proofs.session.Session.answer.Goals.{In-Some}

-- the reply is that to the word and what follows
words : (c : In-Some) → reply c.args.self.now c.args.line.now ≡ word_reply c.args.self.now c.in-Some.word.now c.in-Some.rest.now
words c =
    let parts = c.in-Some.ensures.byte (omega arith) (λ w o h. h) in
    reply-word c.args.self.now _ c.in-Some.word.now c.in-Some.rest.now parts.2 parts.0 parts.1

pub returns-in_default : goal.returns-in_default
returns-in_default c =
    rw (reply-one c.args.self.now _ (c.in_default.ensures.byte (omega arith) (λ w o h. h)))
    (replied-told c.tell.result c.word.result _ _ _ _ c.word.ensures c.tell.ensures.text c.tell.ensures.memory)

pub returns-in-new : goal.returns-in-new
returns-in-new c =
    rw (words (goal.at.returns-in-new c).In-Some, c.in-new.is)
    (replied-told c.tell-in-new.result c.add.result _ _ _ _ c.add.ensures c.tell-in-new.ensures.text c.tell-in-new.ensures.memory)

pub returns-in-clone : goal.returns-in-clone
returns-in-clone c =
    rw (words (goal.at.returns-in-clone c).In-Some, c.in-clone.is)
    (replied-told c.tell-in-clone.result c.duplicate.result _ _ _ _ c.duplicate.ensures c.tell-in-clone.ensures.text c.tell-in-clone.ensures.memory)

pub returns-in-read : goal.returns-in-read
returns-in-read c =
    rw (words (goal.at.returns-in-read c).In-Some, c.in-read.is)
    (replied-told c.tell-in-read.result c.read.result _ _ _ _ c.read.ensures c.tell-in-read.ensures.text c.tell-in-read.ensures.memory)

pub returns-in-same : goal.returns-in-same
returns-in-same c =
    rw (words (goal.at.returns-in-same c).In-Some, c.in-same.is)
    (replied-told c.tell-in-same.result c.same.result _ _ _ _ c.same.ensures c.tell-in-same.ensures.text c.tell-in-same.ensures.memory)

pub returns-in-release : goal.returns-in-release
returns-in-release c =
    rw (words (goal.at.returns-in-release c).In-Some, c.in-release.is)
    (replied-told c.tell-in-release.result c.release.result _ _ _ _ c.release.ensures c.tell-in-release.ensures.text c.tell-in-release.ensures.memory)

pub returns-in-sym : goal.returns-in-sym
returns-in-sym c =
    rw (words (goal.at.returns-in-sym c).In-Some, c.in-sym.is)
    (replied-told c.tell-in-sym.result c.symbol.result _ _ _ _ c.symbol.ensures c.tell-in-sym.ensures.text c.tell-in-sym.ensures.memory)

pub returns-in_default-word : goal.returns-in_default-word
returns-in_default-word c =
    let other = c.in_default-word in
    rw (
      words (goal.at.returns-in_default-word c).In-Some,
      reply-none c.args.self.now c.in-Some.word.now c.in-Some.rest.now other.not-new other.not-clone other.not-read other.not-same other.not-release other.not-sym,
    )
    (replied-told c.tell-in_default-word.result (Err BadCommand) c.args.self.now _ _ (bad_command c.args.self.now)
    (λ _. refl) c.tell-in_default-word.ensures.text c.tell-in_default-word.ensures.memory)
