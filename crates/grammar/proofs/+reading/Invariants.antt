-- The readers of an expression and of its parts call each other: the depth that is left falls, or stays while a part is told from its
-- whole.
use Rattle.std.specs.Prelude.{◌+◌, ◌*◌}
use Rattle.grammar.proofs.+reading.Given as goal

abbrev pub decreases-read_cast : goal.decreases-read_cast
decreases-read_cast l = 7 * l.depth + 4

abbrev pub decreases-read_expr : goal.decreases-read_expr
decreases-read_expr l = 7 * l.depth

abbrev pub decreases-read_exprs : goal.decreases-read_exprs
decreases-read_exprs l = 7 * l.depth + 3

abbrev pub decreases-read_exprs-read_times : goal.decreases-read_exprs-read_times
decreases-read_exprs-read_times l = 7 * l.depth + 2

abbrev pub decreases-read_field : goal.decreases-read_field
decreases-read_field l = 7 * l.depth + 1

abbrev pub decreases-read_fields : goal.decreases-read_fields
decreases-read_fields l = 7 * l.depth + 3

abbrev pub decreases-read_fields-read_times : goal.decreases-read_fields-read_times
decreases-read_fields-read_times l = 7 * l.depth + 2

abbrev pub decreases-read_following : goal.decreases-read_following
decreases-read_following l = 7 * l.depth + 6

abbrev pub decreases-read_items : goal.decreases-read_items
decreases-read_items l = 7 * l.depth + 4

abbrev pub decreases-read_iteration : goal.decreases-read_iteration
decreases-read_iteration l = 7 * l.depth + 5

abbrev pub decreases-read_record : goal.decreases-read_record
decreases-read_record l = 7 * l.depth + 4
