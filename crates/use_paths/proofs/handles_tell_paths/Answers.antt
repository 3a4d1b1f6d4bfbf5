use Rattle.ra_ap_intern.proofs.CallerLemmas.{iff_trans, line_read, lines_tell}
use Rattle.use_paths.specs.Paths.{declared_by, last_of, parent_of}
use Rattle.use_paths.proofs.Opened.{declares}
use Rattle.use_paths.proofs.handles_tell_paths.Goals as goal

pub returns-clause-spelled : goal.returns-clause-spelled
returns-clause-spelled c s built =
    line_read declared_by parent_of last_of declares s built.falls built

pub returns-clause-equal : goal.returns-clause-equal
returns-clause-equal c s ok built a b read =
    iff_trans (c.references_are_names.ensures.equal a b)
    (lines_tell _ parent_of last_of c.paths_are_their_parts.ensures s ok _ _
    (line_read declared_by parent_of last_of declares s built.falls built _ read))
