-- How the rules see the nodes of the code.
use Rattle.wgsl_rules.specs.internal.Nodes.{Node, at_scalar, at_result}
use Rattle.wgsl_core.specs.declared.conversion.Node.{Node as ConvPlace}
use Rattle.wgsl_core.specs.declared.conversion.Node.TheVariants as nodes

abbrev pub node_view : ConvPlace → Node
node_view (nodes.Scalar s) = at_scalar s
node_view (nodes.Result r) = at_result r.function r.shape r.precision
