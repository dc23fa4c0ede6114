-- The answers to requests.
use Rattle.std.specs.Prelude.{◌≡◌, ℕ, List, Option, Some, None, Result}
use Rattle.wgsl_requests.specs.Prelude.{BinaryOperator, UnaryOperator, RuleSet, WgslType, Members, Signature, Refusal, MemberLayout, IsOperatorAnswer}
use Rattle.wgsl_requests.specs.Prelude.{IsUnaryAnswer, Operand, types_of, unknown_name, Fits, Taker, list_fits, FormRefusal}
use Rattle.wgsl_rules.specs.Headline.{Receives}
use Rattle.wgsl_rules.specs.conversion.Common.{IsLeftCommon}
use Rattle.wgsl_rules.specs.conversion.Conversion.{Converts}
use Rattle.wgsl_rules.specs.layout.Layout.{AreOffsetsBy, HasAlignmentBy, HasNoSizeBy, HasSizeBy, IsExactly, IsStructLayoutBy}
use Rattle.wgsl_rules.specs.constructors.Constructors.{IsConstructorAnswer}
use Rattle.wgsl_rules.specs.calls.Answers.{IsCallAnswer}
use Rattle.wgsl_standard.specs.Lines.{lines_named}
use Rattle.wgsl_requests.specs.Standard.{WgslCall, WgslResolution, IsExplanationOf, IsResolutionOf, IsTypeOf}
use Rattle.wgsl_requests.specs.Requests.{WgslForm, IsFormType, WgslRequest, rank, common, unary, binary, size, offsets, layout, ctor, call, type_of, resolution_of, explanation_of, overloads_of, form_of, fit_of}

-- a struct's layout: the size, the alignment and the offset of each member, its own size and alignment
pub record WgslLayout : Type 0 where
  pub layouts : List MemberLayout
  pub offsets : List ℕ
  pub size : ℕ
  pub align : ℕ

-- what is answered
pub data WgslAnswer : Type 0 where
  a_number : Option ℕ → WgslAnswer
  a_size : Option ℕ → Option ℕ → WgslAnswer
  a_common_type : RuleSet → Option WgslType → WgslAnswer
  a_type : Result WgslType Refusal → WgslAnswer
  a_value : Result (Option WgslType) Refusal → WgslAnswer
  some_offsets : Option (List ℕ) → WgslAnswer
  a_layout : List ℕ → Members → Option WgslLayout → WgslAnswer
  -- None if no overload takes the operands
  a_type_of : WgslCall → Option (Option WgslType) → WgslAnswer
  a_resolution_of : WgslCall → Option WgslResolution → WgslAnswer
  -- a line for each overload
  some_lines : List (List ℕ) → WgslAnswer
  a_form_type : Result WgslType FormRefusal → WgslAnswer
  a_fit : Fits → WgslAnswer
  -- no request has this answer
  out_of_memory : WgslAnswer

-- the common type of these types, from left to right, if each of them converts to it
abbrev pub IsReceivedCommon : List WgslType → Option WgslType → Type 0
IsReceivedCommon ts (Some t) = IsLeftCommon ts (Some t) × Receives t ts
IsReceivedCommon ts None = (t : WgslType) → IsLeftCommon ts (Some t) → ¬ Receives t ts

-- the offsets of these members, unless their struct has no size
abbrev pub AreOffsetsOf : RuleSet → Members → Option (List ℕ) → Type 0
AreOffsetsOf rules ms (Some ns) = AreOffsetsBy rules ms ns
AreOffsetsOf rules ms None = HasNoSizeBy rules ms

-- the layout of a struct with these members, unless it has no size
abbrev pub IsLayoutOf : RuleSet → Members → Option WgslLayout → Type 0
IsLayoutOf rules ms (Some l) = IsStructLayoutBy rules ms l.layouts l.offsets l.size l.align
IsLayoutOf rules ms None = HasNoSizeBy rules ms

-- The answer is one to the request.
pub data Answers : WgslRequest → WgslAnswer → Type 0 where
  rank_is : {t u : WgslType} (w : Option ℕ) → IsExactly w (Converts t u) →
      Answers (rank t u) (a_number w)
  common_is : {rules : RuleSet} {ts : List WgslType} (c : Option WgslType) → IsReceivedCommon ts c →
      Answers (common rules ts) (a_common_type rules c)
  unary_is : {o : UnaryOperator} {t : WgslType} (r : Result WgslType Refusal) →
      IsUnaryAnswer o t r → Answers (unary o t) (a_type r)
  binary_is : {o : BinaryOperator} {t u : WgslType} (r : Result WgslType Refusal) →
      IsOperatorAnswer o t u r → Answers (binary o t u) (a_type r)
  size_is : {rules : RuleSet} {t : WgslType} (s a : Option ℕ) → IsExactly s (HasSizeBy rules t) →
      IsExactly a (HasAlignmentBy rules t) → Answers (size rules t) (a_size s a)
  offsets_are : {rules : RuleSet} {name : List ℕ} {ms : Members} (found : Option (List ℕ)) →
      AreOffsetsOf rules ms found → Answers (offsets rules name ms) (some_offsets found)
  layout_is : {rules : RuleSet} {name : List ℕ} {ms : Members} (found : Option WgslLayout) →
      IsLayoutOf rules ms found → Answers (layout rules name ms) (a_layout name ms found)
  ctor_is : {c : Signature} (r : Result WgslType Refusal) →
      IsConstructorAnswer c r → Answers (ctor c) (a_type r)
  call_is : {c : Signature} (r : Result (Option WgslType) Refusal) →
      IsCallAnswer c r → Answers (call c) (a_value r)
  type_of_is : {c : WgslCall} (r : Option (Option WgslType)) →
      IsTypeOf c r → Answers (type_of c) (a_type_of c r)
  resolution_of_is : {c : WgslCall} (r : Option WgslResolution) →
      IsResolutionOf c r → Answers (resolution_of c) (a_resolution_of c r)
  explanation_of_is : {c : WgslCall} (lines : List (List ℕ)) → unknown_name c.callee ≡ None →
      IsExplanationOf c lines → Answers (explanation_of c) (some_lines lines)
  -- nothing has the name
  unknown_is : {c : WgslCall} (name : List ℕ) → unknown_name c.callee ≡ Some name →
      Answers (explanation_of c) (a_type_of c None)
  overloads_of_are : {name : List ℕ} (lines : List (List ℕ)) →
      lines ≡ lines_named name → Answers (overloads_of name) (some_lines lines)
  form_is : {f : WgslForm} (r : Result WgslType FormRefusal) →
      IsFormType f r → Answers (form_of f) (a_form_type r)
  fit_is : {taker : Taker} {xs : List Operand} {ts : List WgslType} (r : Fits) →
      r ≡ list_fits taker ts (types_of xs) → Answers (fit_of taker xs ts) (a_fit r)
