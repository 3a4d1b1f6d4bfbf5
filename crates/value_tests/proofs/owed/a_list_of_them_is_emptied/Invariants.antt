use Rattle.std.proofs.Common.{vec_len}
use Rattle.value_tests.proofs.owed.a_list_of_them_is_emptied.Given as goal

-- each turn takes one out
abbrev pub decreases-loop-owed : goal.decreases-loop-owed
decreases-loop-owed g l = vec_len l.list
