-- How the rules see a call by name.
use Rattle.wgsl_rules.specs.types.Signatures.{Signature}
use Rattle.wgsl_core.specs.Instances.{call_view}
use Rattle.wgsl_calls.specs.declared.call.fit.NamedCall.{NamedCall}

abbrev pub signature_of : NamedCall → Signature
signature_of c = call_view c.name.now c.template c.args.now
