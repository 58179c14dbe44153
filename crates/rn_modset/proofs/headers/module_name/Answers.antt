use Rattle.rn_modset.proofs.LineParts.NamesAreText.{no_module_name}
use Rattle.rn_modset.proofs.headers.module_name.Goals as goal

-- what is no text is no name
pub returns-in-Err : goal.returns-in-Err
returns-in-Err c = no_module_name c.args.bytes.now c.in-Err.ensures.cases.0
