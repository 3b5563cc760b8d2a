use Rattle.desk_core.proofs.SmallCursors.{small_cursor}
use Rattle.desk_core.proofs.pages.more.Goals as goal

pub returns-clause-small : goal.returns-clause-small
returns-clause-small c number size =
    small_cursor _ number c.query_numbers.ensures.small size c.requires
