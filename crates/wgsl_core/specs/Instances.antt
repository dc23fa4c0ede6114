-- How the rules see the literals, template parameters and signatures of the code.
use Rattle.std.specs.Prelude.{ℕ, List, Option, map, option_map, string_bytes}
use Rattle.std.specs.Borrow.{Bor}
use Rattle.wgsl_rules.specs.types.Literals.{Literal, bool, abstract_int, i32, u32, i64, u64}
use Rattle.wgsl_rules.specs.types.Signatures.{Parameter, of_type, of_literal, of_enumerant, Signature}
use Rattle.wgsl_core.specs.View.{view}
use Rattle.wgsl_core.specs.declared.ty.Type.{«Type»}
use Rattle.wgsl_core.specs.declared.literal.Instance.{Instance}
use Rattle.wgsl_core.specs.declared.literal.Instance.TheVariants as instances
use Rattle.wgsl_core.specs.declared.literal.LiteralInstance.{LiteralInstance}
use Rattle.wgsl_core.specs.declared.literal.LiteralInstance.TheVariants as literals
use Rattle.wgsl_core.specs.declared.signature.TpltParam.{TpltParam}
use Rattle.wgsl_core.specs.declared.signature.TpltParam.TheVariants as parameters
use Rattle.wgsl_core.specs.declared.signature.CallSignature.{CallSignature}

abbrev pub literal_view : LiteralInstance → Literal
literal_view (literals.Bool b) = bool b
literal_view (literals.AbstractInt n) = abstract_int n
literal_view (literals.I32 n) = i32 n
literal_view (literals.U32 n) = u32 n
literal_view (literals.I64 n) = i64 n
literal_view (literals.U64 n) = u64 n

abbrev pub instance_view : Instance → Literal
instance_view (instances.Literal l) = literal_view l

abbrev pub parameter_view : TpltParam → Parameter
parameter_view (parameters.Ty t) = of_type (view t)
parameter_view (parameters.Instance i) = of_literal (instance_view i)
parameter_view (parameters.Enumerant e) = of_enumerant e

abbrev pub signature_view : CallSignature → Signature
signature_view c = record {
  name = string_bytes c.name;
  template = option_map (λ ps. map parameter_view ps.items) c.tplt;
  arguments = map view (c.args).items;
}

-- the signature of a call, as it is given
abbrev pub call_view : List ℕ → Option (Bor (List TpltParam)) → List «Type» → Signature
call_view name tplt args = record {
  name = name;
  template = option_map (λ ps. map parameter_view ps.now) tplt;
  arguments = map view args;
}
