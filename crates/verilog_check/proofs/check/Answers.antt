-- `verilog_check::check` meets its contract: what refusal 1 lets pass is short, and what refusal 2 lets pass it passes whole. Assumes nothing.
use mathlib.Core.Path.{sym, ◌∙◌}
use native.Mathlib.Omega.{arith}
use Rattle.tagged.specs.Limits.{deepest, longest_module}
use Rattle.tagged.proofs.FileLaws.{file_long, form_whole}
use Rattle.verilog.specs.Form.{module_body, module_form}
use Rattle.verilog_check.proofs.check.Goals as goal

pub module_form-requires : goal.module_form-requires
module_form-requires c = omega (arith, file_long longest_module c.args.file.now _ c.file_answer.ensures c.in_ok-file_answer.was)

pub tree_answer-requires : goal.tree_answer-requires
unfolding module_form
tree_answer-requires c = (
  sym c.file_answer.ensures ∙ c.in_ok-file_answer.was,
  form_whole longest_module c.args.file.now _ c.file_answer.ensures c.in_ok-file_answer.was (module_body deepest) _ (sym c.module_form.ensures ∙ c.in_ok-module_form.was),
)
