-- The extensions of a module (WGSL, "Enable Directive").
use Rattle.std.specs.Prelude.{ℕ, List, [], ◌∷◌, Bool, false, ◌||◌, bytes_eq, codes, nat_eq}
use Rattle.std.specs.List.{list_any, starts_with}
use Rattle.wgsl_typing.specs.declared.extension.Extensions.{Extensions}

-- before the first directive
abbrev pub none_enabled : Extensions
none_enabled = record { f16 = false; subgroups = false; clip_distances = false; dual_source_blending = false; primitive_index = false }

-- The extension with this name is enabled. Others change nothing: no rule asks for these.
abbrev pub with_enabled : List ℕ → Extensions → Extensions
with_enabled name e = record {
  f16 = bytes_eq name (codes "f16") || e.f16;
  subgroups = bytes_eq name (codes "subgroups") || e.subgroups;
  clip_distances = bytes_eq name (codes "clip_distances") || e.clip_distances;
  dual_source_blending = bytes_eq name (codes "dual_source_blending") || e.dual_source_blending;
  primitive_index = bytes_eq name (codes "primitive_index") || e.primitive_index;
}

-- Names

abbrev pub extension_names : List (List ℕ)
extension_names =
    codes "f16" ∷ codes "subgroups" ∷ codes "clip_distances" ∷ codes "dual_source_blending" ∷ codes "primitive_index" ∷
    codes "subgroup_size_control" ∷ codes "atomic_vec2u_min_max" ∷ []

-- what implementations have beside WGSL's: `chromium_internal_graphite`
abbrev pub is_foreign : List ℕ → Bool
is_foreign name = starts_with nat_eq name (codes "wgpu_") || starts_with nat_eq name (codes "chromium_")

abbrev pub is_extension : List ℕ → Bool
is_extension name = list_any (bytes_eq name) extension_names || is_foreign name
