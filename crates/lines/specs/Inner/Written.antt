-- What a function of a row's last field writes.
--
--   kind_text c   `error` or `blocks` after a space, for a row of the kind c, and nothing for others
use Rattle.std.specs.Prelude.{List, [], ℕ}
use Rattle.text.specs.Text.{ascii}
use Rattle.rows.specs.Kinds.{Kind, mean_row, blocks_row, error_row, kept_row}

unfoldable pub kind_text : Kind → List ℕ
kind_text error_row = ascii " error"
kind_text blocks_row = ascii " blocks"
kind_text mean_row = []
kind_text kept_row = []
