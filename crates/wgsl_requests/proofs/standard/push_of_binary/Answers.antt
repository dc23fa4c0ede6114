use Rattle.wgsl_requests.proofs.Shared.{map, line_of, a_binary}
use Rattle.wgsl_syntax.specs.Operator.{binary_operators, binary_text}
use Rattle.wgsl_standard.proofs.NumberedLines.{one_binary}
use Rattle.wgsl_requests.proofs.Overloaded.{adds, adds_none}
use Rattle.wgsl_requests.proofs.standard.push_of_binary.Goals as goal

pub returns-in-Ok : goal.returns-in-Ok
returns-in-Ok c = adds binary_text binary_operators a_binary one_binary _ _ c.from_str.ensures _ c.in-Ok.is c.push_of.result (map line_of c.args.all.now.items) (map line_of c.push_of.new.all.items) c.push_of.ensures

pub returns-in-Err : goal.returns-in-Err
returns-in-Err c = adds_none binary_text binary_operators a_binary one_binary _ _ c.from_str.ensures _ c.in-Err.is (map line_of c.args.all.now.items)
