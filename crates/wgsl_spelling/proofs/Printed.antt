-- The text that an answer prints for a type spells that type.
use Rattle.std.proofs.Common.{◌≡◌, ◌≤◌, ◌++◌, ℕ, false, List, [], ◌∷◌, Option, Some, None, Ok, codes, decimal, refl, sym, ap, subst, ◌∙◌, arith, nat_eq, append_assoc, append-nil}
use Rattle.wgsl_spelling.proofs.Common.{list_all, common_steps, access_text, texture_name, texture_text_by, parameters_of, RuleSet, TextureType, then, is_in_ascii_name, listed as listed_tokens, ReadAt, mark_len, tokens_from, tokens_of, Chain, type_of, IsWritable, layers}
use Rattle.wgsl_syntax.specs.declared.texture.TextureType.TheVariants as x
use Rattle.wgsl_rules.specs.types.Spelling.{spelling_by}
use Rattle.wgsl_rules.specs.types.Types.{WgslType, scalar, struct, atomic, pointer, reference, texture, sampler, binding_array, ray_query, acceleration_structure, array, vec, mat}
use Rattle.wgsl_reader.specs.declared.kind.Kind.TheVariants as k
use Rattle.wgsl_reader.specs.declared.rule.Rule.TheVariants as r
use Rattle.wgsl_reader.specs.declared.grammar.Symbol.TheVariants as s
use Rattle.wgsl_spelling.specs.Spelled.{Spells, SpellsBy, State, TokensSpell, behind, end, nothing, state, type_of_events}
use Rattle.wgsl_spelling.proofs.Evaluated.{eval, evaluated, on_top, stack}
use Rattle.wgsl_spelling.proofs.Listed.{all_listed, listed}
use Rattle.wgsl_spelling.proofs.Placed.{located}
use Rattle.wgsl_spelling.proofs.Tokenized.{tokenized}
use Rattle.wgsl_spelling.proofs.TokensPlaced.{placed}
use Rattle.wgsl_spelling.proofs.TreeEvents.{events, same_kinds, type_read}
use Rattle.wgsl_spelling.proofs.TreeTokens.{both}
use Rattle.wgsl_spelling.proofs.Trees.{IsGood, IsName, IsType, Tree, at_end, digits, list, name, parts, text, tokens}
use Rattle.wgsl_spelling.proofs.TypeTrees.{chain_type, texture_tree, tree, tree_good, tree_part, tree_type}
use Rattle.wgsl_spelling.proofs.TypesRead.{reads}

-- the text of the tree of a type is what is printed

texture_printed : (rules : RuleSet) (t : TextureType) (rest : List ℕ) → text (texture_tree rules (texture_name t) (parameters_of t)) rest ≡ texture_text_by rules t ++ rest
texture_printed rules (x.Sampled1D s) rest = simp append_assoc
texture_printed rules (x.Sampled2D s) rest = simp append_assoc
texture_printed rules (x.Sampled2DArray s) rest = simp append_assoc
texture_printed rules (x.Sampled3D s) rest = simp append_assoc
texture_printed rules (x.SampledCube s) rest = simp append_assoc
texture_printed rules (x.SampledCubeArray s) rest = simp append_assoc
texture_printed rules (x.Sampled1DArray s) rest = simp append_assoc
texture_printed rules (x.Multisampled2D s) rest = simp append_assoc
texture_printed rules (x.Multisampled2DArray s) rest = simp append_assoc
texture_printed rules (x.Storage1D f m) rest = simp append_assoc
texture_printed rules (x.Storage1DArray f m) rest = simp append_assoc
texture_printed rules (x.Storage2D f m) rest = simp append_assoc
texture_printed rules (x.Storage2DArray f m) rest = simp append_assoc
texture_printed rules (x.Storage3D f m) rest = simp append_assoc
texture_printed rules x.DepthMultisampled2D rest = refl
texture_printed rules x.External rest = refl
texture_printed rules x.Depth2D rest = refl
texture_printed rules x.Depth2DArray rest = refl
texture_printed rules x.DepthCube rest = refl
texture_printed rules x.DepthCubeArray rest = refl

printed : (rules : RuleSet) (t : WgslType) (rest : List ℕ) → text (tree rules t) rest ≡ spelling_by rules t ++ rest
printed rules (scalar s) rest = refl
printed rules (array None t) rest = rw (printed rules t (62 ∷ rest)) (simp append_assoc)
printed rules (array (Some n) t) rest = rw (printed rules t (44 ∷ 32 ∷ (decimal n ++ (62 ∷ rest)))) (simp append_assoc)
printed rules (vec n t) rest = rw (printed rules t (62 ∷ rest)) (simp append_assoc)
printed rules (mat c r t) rest = ap (λ bytes. (codes "mat" ++ (decimal c ++ (codes "x" ++ decimal r))) ++ (60 ∷ bytes)) (printed rules t (62 ∷ rest)) ∙ simp append_assoc
printed rules (struct w ms) rest = refl
printed rules (atomic t) rest = rw (printed rules t (62 ∷ rest)) (simp append_assoc)
printed rules (pointer s t m) rest = rw (printed rules t (44 ∷ 32 ∷ (access_text m ++ (62 ∷ rest)))) (simp append_assoc)
printed rules (reference s t m) rest = rw (printed rules t (44 ∷ 32 ∷ (access_text m ++ (62 ∷ rest)))) (simp append_assoc)
printed rules (texture t) rest = texture_printed rules t rest
printed rules (sampler s) rest = refl
printed rules (binding_array None t) rest = rw (printed rules t (62 ∷ rest)) (simp append_assoc)
printed rules (binding_array (Some n) t) rest = rw (printed rules t (44 ∷ 32 ∷ (decimal n ++ (62 ∷ rest)))) (simp append_assoc)
printed rules (ray_query None) rest = refl
printed rules (ray_query (Some f)) rest = simp append_assoc
printed rules (acceleration_structure None) rest = refl
printed rules (acceleration_structure (Some f)) rest = simp append_assoc

-- no byte order mark stands in front

mark_by : (b : ℕ) (bs : List ℕ) → nat_eq b 239 ≡ false → mark_len (b ∷ bs) ≡ 0
mark_by b [] e = refl
mark_by b (c ∷ []) e = refl
mark_by b (c ∷ d ∷ bs) e = rw e refl

no_mark_byte : (b : ℕ) → is_in_ascii_name b ≡ Rattle.std.proofs.Common.true → nat_eq b 239 ≡ false
no_mark_byte b e = grind (arith, common_steps, e)

no_mark : (w rest : List ℕ) → IsName w → mark_len (w ++ rest) ≡ 0
no_mark [] rest is = absurd (let e = is.letter in cc e)
no_mark (b ∷ bs) rest is = mark_by b (bs ++ rest) (no_mark_byte b (both (is_in_ascii_name b) (list_all is_in_ascii_name bs) is.all).0)

tree_mark : (t : Tree) → IsType t → IsGood t → mark_len (text t []) ≡ 0
tree_mark (name w) is good = no_mark w _ good
tree_mark (list w t) is good = no_mark w _ good.0
tree_mark (digits n) is good = elim is [ ]
tree_mark (parts a b) is good = elim is [ ]

-- the whole

tree_tokens : (t : Tree) → IsType t → IsGood t → tokens_of (text t []) ≡ Ok (tokens k.Less k.Greater t 0 [])
tree_tokens t is good = ap (λ n. tokens_from n 0 (text t [])) (tree_mark t is good) ∙ tokenized t [] 0 [] good at_end refl

events_say : (rules : RuleSet) (t : WgslType) → IsWritable t → layers t ≤ 255 → Some t ≡ type_of_events (text (tree rules t) []) (listed (tree rules t) 0 []) (events (tree rules t) 0 [])
events_say rules t is shallow =
    let tr = tree rules t in
    let whole = text tr [] in
    let good = tree_good rules t is in
    let there = located tr whole [] [] 0 good at_end refl refl in
    let read = reads whole rules t 0 is shallow there in
    let final : State → Option Chain = end whole in
    let all : behind whole (listed tr 0 []) nothing (events tr 0 []) ≡ then (eval whole tr 0 nothing.chain) (λ c. Some (state (stack tr 0 []) c)) =
    evaluated whole (listed tr 0 []) tr 0 0 nothing [] good there (placed tr (listed tr 0 []) [] [] 0 0 refl refl) in
    sym (
    ap (λ o. then (then o final) type_of) all
    ∙ (ap (λ o. then (then (then o (λ c. Some (state (stack tr 0 []) c))) final) type_of) read.evaluated
    ∙ (ap (λ items. then (final (state items read.after)) type_of) (on_top (tree_part rules t) 0 []) ∙ (ap (λ o. then o type_of) read.typed ∙ chain_type t is)))
    )

tree_spells : (rules : RuleSet) (t : WgslType) → IsWritable t → layers t ≤ 255 → Spells (text (tree rules t) []) (Some t)
tree_spells rules t is shallow =
    let tr = tree rules t in
    let whole = text tr [] in
    let good = tree_good rules t is in
    let kind = tree_type rules t in
    let lists : listed_tokens (tokens_of whole) ≡ Ok (listed tr 0 []) = ap listed_tokens (tree_tokens tr kind good) ∙ ap Ok (all_listed tr 0) in
    let spell : TokensSpell whole (listed tr 0 []) (Some t) = record {
      outcome = Ok (events tr 0 []);
      read = subst (λ ks. ReadAt (s.Rule r.Type ∷ []) 0 ks (Ok (events tr 0 []))) (sym (same_kinds tr 0 [])) (type_read tr kind);
      is = events_say rules t is shallow;
    } in
    subst (λ ts. SpellsBy whole ts (Some t)) (sym lists) spell

pub printed_spells : (rules : RuleSet) (t : WgslType) → IsWritable t → layers t ≤ 255 → Spells (spelling_by rules t) (Some t)
printed_spells rules t is shallow = subst (λ bytes. Spells bytes (Some t)) (printed rules t [] ∙ append-nil (spelling_by rules t)) (tree_spells rules t is shallow)
