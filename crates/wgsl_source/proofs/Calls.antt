-- The values of calls, when all arguments are read.
use Rattle.std.proofs.Common.{◌≡◌, ◌≤◌, ◌∙◌, ℕ, Bool, nat_eq, List, drop, length, inl, IfOk, Result, Ok, Err, Some, ap, subst}
use Rattle.std.proofs.lemmas.List.{drop_all}
use Rattle.wgsl_constants.specs.Literals.{then}
use Rattle.wgsl_constants.specs.declared.call.Arguments.{Arguments}
use Rattle.wgsl_constants.specs.declared.call.Arguments.TheVariants.{Zero}
use Rattle.wgsl_source.specs.Calls.{IsCallOf, called_with, with_items}
use Rattle.wgsl_source.specs.declared.call.Callee.{Callee}
use Rattle.wgsl_source.specs.declared.item.Item.{Item}
use Rattle.wgsl_source.specs.declared.value.Value.{Value}

pub call_of : {E : Type 0} (r : Result Value E) (of : Callee) (only : Bool) (items : List Item) (given : Arguments) (index : ℕ) → only ≡ nat_eq (length items) 1
    → with_items of only items Zero ≡ with_items of only (drop index items) given → length items ≤ index → IfOk r (λ v. called_with of items given ≡ Some v) → IfOk r (IsCallOf of items)
call_of (Ok v) of only items given index one read all is =
    let whole : with_items of only items Zero ≡ Some given = read ∙ ap (λ xs. with_items of only xs given) (drop_all index items all) in
    inl (subst (λ (b : Bool). then (with_items of b items Zero) (called_with of items) ≡ Some v) one (ap (λ given. then given (called_with of items)) whole ∙ is))
call_of (Err e) of only items given index one read all is = tt
