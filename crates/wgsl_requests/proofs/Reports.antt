-- What `{:>10}` writes, and the lines of a struct's layout.
use Rattle.wgsl_requests.proofs.Shared.{◌≡◌, ℕ, zero, suc, ◌-◌, ◌^◌, false, List, [], ◌∷◌, ◌++◌, length, replicate, codes, refl, ap, arith, append-nil}
use Rattle.wgsl_requests.proofs.Shared.{padded_integral, format_spec, char_count, styled_text, padded, take_chars, repeat, column, ◌⊎◌, inl, inr, decimal}
use Rattle.wgsl_requests.proofs.Shared.{string_bytes, sym, ◌∙◌, append_assoc, rules, WgslType, Members, spelling, member_view, struct_view, view, layouts_of}
use Rattle.wgsl_requests.proofs.Shared.{offsets_of, StructLayout, the_lemmas, columns, member_line, member_lines, struct_line, layout_text, layout_view}
use Rattle.wgsl_requests.proofs.Shared.{placed_line, placed_lines}
use lib.Utf8.{encode}
use Rattle.wgsl_core.specs.internal.View.{members_view}
use Rattle.wgsl_core.specs.declared.layout.PlacedMember.{PlacedMember}
use Rattle.wgsl_core.specs.declared.ty.StructType.{StructType, out-StructType}
use Rattle.wgsl_core.specs.declared.ty.StructMemberType.{StructMemberType, out-StructMemberType}

spaces : (n : ℕ) → repeat {A = ℕ} n (32 ∷ []) ≡ replicate n 32
spaces zero = refl
spaces (suc n) = ap (λ xs. 32 ∷ xs) (spaces n)

filled : (n : ℕ) (text : List ℕ) → repeat {A = ℕ} n (32 ∷ []) ++ [] ++ [] ++ [] ++ (text ++ repeat {A = ℕ} (n - n) (32 ∷ [])) ≡ replicate n 32 ++ text
filled n text =
    let none : n - n ≡ 0 = omega arith in
    simp (none, append-nil, spaces)

pub number_in_column : (text : List ℕ) → padded_integral (format_spec 32 3 0 10 (2 ^ 64 - 1)) false [] text ≡ column text
unfolding padded_integral char_count encode
number_in_column text =
    let e : 10 - length text - 0 - 0 ≡ 10 - length text = omega arith in
    rw e (filled (10 - length text) text)

pub dash_in_column : styled_text (format_spec 32 3 0 10 (2 ^ 64 - 1)) (codes "-") ≡ column (codes "-")
unfolding padded char_count take_chars encode
dash_in_column = refl

pub name_seen : (m : StructMemberType) → (member_view m).name ≡ string_bytes (out-StructMemberType m).name
name_seen m = search (rules, the_lemmas)

pub type_seen : (m : StructMemberType) → (member_view m).ty ≡ view (out-StructMemberType m).ty
type_seen m = search (rules, the_lemmas)

pub struct_name_seen : (s : StructType) → (struct_view s).name ≡ string_bytes (out-StructType s).name
struct_name_seen s = search (rules, the_lemmas)

-- three columns, of texts that are padded already
pub in_columns : (a b c x y z rest : List ℕ) → x ≡ column a → y ≡ column b → z ≡ column c → x ++ (32 ∷ (y ++ (32 ∷ (z ++ (32 ∷ rest))))) ≡ columns a b c ++ rest
in_columns a b c x y z rest p q r = simp (p, q, r, append_assoc)

-- the end of a member's line
line_ends : (first name : List ℕ) (t : WgslType) → first ++ (name ++ (32 ∷ (spelling t ++ (10 ∷ [])))) ≡ first ++ name ++ codes " " ++ spelling t ++ codes "\n"
line_ends first name t = simp append_assoc

pub member_laid : (m : StructMemberType) (p : PlacedMember) (x y z : List ℕ) → x ≡ column (decimal p.offset) → y ≡ column (decimal p.size) → z ≡ column (decimal p.align)
    → x ++ (32 ∷ (y ++ (32 ∷ (z ++ (32 ∷ (string_bytes (out-StructMemberType m).name ++ (32 ∷ (spelling (view (out-StructMemberType m).ty) ++ (10 ∷ []))))))))) ≡ placed_line m p
member_laid m p x y z a b c =
    in_columns (decimal p.offset) (decimal p.size) (decimal p.align) x y z (string_bytes (out-StructMemberType m).name ++ (32 ∷ (spelling (view (out-StructMemberType m).ty) ++ (10 ∷ [])))) a b c
    ∙ line_ends (columns (decimal p.offset) (decimal p.size) (decimal p.align)) (string_bytes (out-StructMemberType m).name) (view (out-StructMemberType m).ty)
    ∙ ap (λ n. member_line p.offset p.size p.align n (view (out-StructMemberType m).ty)) (sym (name_seen m))
    ∙ ap (λ t. member_line p.offset p.size p.align (member_view m).name t) (sym (type_seen m))

pub no_lines : (ms : List StructMemberType) (ps : List PlacedMember) → (ms ≡ []) ⊎ (ps ≡ []) → placed_lines ms ps ≡ []
no_lines [] ps e = refl
no_lines (m ∷ ms) [] e = refl
no_lines (m ∷ ms) (p ∷ ps) (inl e) = cc
no_lines (m ∷ ms) (p ∷ ps) (inr e) = cc

lines_seen : (ms : List StructMemberType) (ps : List PlacedMember) → placed_lines ms ps ≡ member_lines (members_view ms) (layouts_of ps) (offsets_of ps)
lines_seen [] ps = refl
lines_seen (m ∷ ms) [] = refl
lines_seen (m ∷ ms) (p ∷ ps) = ap (λ r. placed_line m p ++ r) (lines_seen ms ps)

-- the whole report
pub reported : (name : List ℕ) (items : List StructMemberType) (l : StructLayout) (ms : Members) (old mid new : List ℕ) → members_view items ≡ ms → mid ≡ old ++ placed_lines items l.members.items →
    new ≡ mid ++ struct_line name l.size l.align → new ≡ old ++ layout_text name ms (layout_view l)
reported name items l ms old mid new seen members last =
    let lines : placed_lines items l.members.items ≡ member_lines ms (layouts_of l.members.items) (offsets_of l.members.items) =
    lines_seen items l.members.items ∙ ap (λ ms. member_lines ms (layouts_of l.members.items) (offsets_of l.members.items)) seen in
    last ∙ ap (λ x. x ++ struct_line name l.size l.align) (members ∙ ap (λ x. old ++ x) lines) ∙ append_assoc old _ _
