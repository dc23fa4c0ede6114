-- How the rules see a measure of the code, and members that are placed.
use Rattle.std.specs.Prelude.{◌≡◌, ◌↔◌, ℕ, List, None}
use Rattle.wgsl_syntax.specs.declared.rules.RuleSet.{RuleSet}
use Rattle.wgsl_rules.specs.types.Types.{WgslType, Members}
use Rattle.wgsl_rules.specs.layout.Layout.{HasSizeBy, HasAlignmentBy, IsExactly, LacksSizeBy, HaveLayoutsBy, IsStructSize, AreOffsetsBy}
use Rattle.wgsl_core.specs.declared.layout.Measure.{Measure}
use Rattle.wgsl_core.specs.declared.layout.PlacedMember.{PlacedMember}
use Rattle.wgsl_core.specs.Layout.{layouts_of, offsets_of}

pub record IsMeasure (rules : RuleSet) (t : WgslType) (measure : Measure) : Type 0 where
  pub size : IsExactly measure.size (HasSizeBy rules t)
  pub lacks : (measure.size ≡ None) ↔ LacksSizeBy rules t
  pub align : IsExactly measure.align (HasAlignmentBy rules t)

abbrev pub HasSomeSize : RuleSet → Members → Type 0
HasSomeSize rules ms = (n : ℕ) × IsStructSize (HaveLayoutsBy rules ms) n

abbrev pub ArePlaced : RuleSet → Members → List PlacedMember → Type 0
ArePlaced rules ms placed = HaveLayoutsBy rules ms (layouts_of placed) × AreOffsetsBy rules ms (offsets_of placed)
