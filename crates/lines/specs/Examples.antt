-- The lines of the rules' example, and others, computed over the definitions.
--
--   over-line, mean-line, error-line, total-line    lines of W4
--   blocks-line                                     a row that is lost to blocks
--   negative-check                                  a check number below 0
use Rattle.std.specs.Prelude.{◌≡◌, refl, pos, negsuc}
use Rattle.text.specs.Text.{ascii}
use Rattle.text.specs.Spelled.{letter_of, letters_in, decimal_in}
use Rattle.rows.specs.Kinds.{mean_row, blocks_row, error_row}
use Rattle.lines.specs.Lines.{line_of, label_of, kind_words, row_line, named_line, source_line, check_line}

-- W4
over-line : named_line (ascii "over") 4 ≡ ascii "over 4\n"
unfolding named_line line_of decimal_in
over-line = refl

-- W4
mean-line : row_line 0 1 400 mean_row ≡ ascii "mean 1 400\n"
unfolding row_line line_of label_of kind_words letters_in letter_of decimal_in
mean-line = refl

-- W4
error-line : row_line 3 1 4 error_row ≡ ascii "AB 1 4 error\n"
unfolding row_line line_of label_of kind_words letters_in letter_of decimal_in
error-line = refl

-- X3: row ABC is blocks
blocks-line : row_line 7 1 0 blocks_row ≡ ascii "ABC 1 0 blocks\n"
unfolding row_line line_of label_of kind_words letters_in letter_of decimal_in
blocks-line = refl

-- W4
total-line : source_line (ascii "total") 4 456 ≡ ascii "total 4 456\n"
unfolding source_line line_of decimal_in
total-line = refl

-- W12
negative-check : check_line (negsuc 199_999) (pos 0) ≡ ascii "check -200000 0\n"
unfolding check_line line_of decimal_in
negative-check = refl
