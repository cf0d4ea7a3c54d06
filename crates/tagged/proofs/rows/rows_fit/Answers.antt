-- `tagged::rows::rows_fit` meets its contract: with both lengths right, the numbers still to be tested decide at each turn. Assumes nothing.
use Rattle.std.proofs.Common.{arith}
use Rattle.tagged.proofs.RowLaws.{row_length_off, next_length_off, fits_start, fits_turn, fits_stop, fits_done}
use Rattle.tagged.proofs.rows.rows_fit.Goals.{then-row-widths-via-then-row-widths, then-row-widths-via-else-row-widths+then-next_length-widths}
use Rattle.tagged.proofs.rows.rows_fit.Goals as goal

pub returns-then-row-widths : goal.returns-then-row-widths
returns-then-row-widths c =
    elim c.then-row-widths.branch [
      | then-row-widths-via-then-row-widths w ↦ row_length_off c.args.widths.now c.args.row.now _ (λ e. omega arith)
      | then-row-widths-via-else-row-widths+then-next_length-widths w ↦ next_length_off c.args.widths.now c.args.row.now _ (λ e. omega arith)
    ]

pub loop-at-init : goal.loop-at-init
loop-at-init c = fits_start c.args.widths.now c.args.row.now _ c.if-row-widths.false c.if-next_length-widths.false

pub loop-at-preserved : goal.loop-at-preserved
loop-at-preserved c =
    fits_turn c.args.widths.now c.args.row.now _ c.loop-at.at c.loop-at.invariant _ _ c.from.ensures c.four_of.ensures c.loop-at-test.true _ c.fits.ensures c.if-not-fits.false

pub returns-then-not-fits : goal.returns-then-not-fits
returns-then-not-fits c =
    fits_stop c.args.widths.now c.args.row.now _ c.loop-at.at c.loop-at.invariant _ _ c.from.ensures c.four_of.ensures c.loop-at-test.true _ c.fits.ensures c.if-not-fits.true

pub returns : goal.returns
returns c = fits_done c.args.widths.now c.args.row.now _ c.loop-at.at c.loop-at.invariant (omega arith)
