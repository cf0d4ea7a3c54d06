-- `response::respond` meets its contract: a netlist as it was translated, or the text of the refusal. Assumes nothing.
use Rattle.response.proofs.TextLaws.{respond_written, respond_refused}
use Rattle.response.proofs.respond.Goals as goal

pub returns-in-Ok : goal.returns-in-Ok
returns-in-Ok c = respond_written _ _ c.requires c.translate.ensures _ _ c.in-Ok.is

pub returns-in-Err : goal.returns-in-Err
returns-in-Err c = respond_refused _ _ c.requires c.translate.ensures _ _ c.in-Err.is c.put_refusal.ensures
