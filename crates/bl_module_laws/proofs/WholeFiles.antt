-- Files that pass together are good one behind another: one after another.
use Rattle.std.proofs.Common.{◌≡◌, ◌∙◌, ℕ, ◌+◌, Bool, true, false, List, [], ◌∷◌, ◌++◌, length, map, sym, ap, subst, arith}
use Rattle.std.proofs.lemmas.List.{append-nil, append_assoc, length-append}
use Rattle.std.specs.List.{list_any}
use Rattle.std.specs.Prelude.{⊤}
use Rattle.bl_face.specs.declared.face.Face.{Face}
use Rattle.bl_joined.specs.Texts.{moved_place}
use Rattle.bl_joined.specs.Trees.{placed_item}
use Rattle.bl_joined_laws.specs.Items.{items_behind}
use Rattle.bl_lex.specs.Rules.{Passes as TextPasses}
use Rattle.bl_lex.specs.Tokens.{Lexes}
use Rattle.bl_module.specs.Faces.{FacesStand, behind_faces}
use Rattle.bl_module.specs.Parts.{IsGoodBehind}
use Rattle.bl_module.specs.Rules.{PassesIn, TreeFails as TreeFailsBehind, TreePasses as TreePassesBehind, in_bytes, in_tokens, in_tree, is_marked}
use Rattle.bl_module.specs.declared.behind.Behind.{Behind}
use Rattle.bl_module.specs.declared.taken.Taken.TheVariants.{AsLast}
use Rattle.bl_module_laws_faces.specs.Declared.{FaceAdds}
use Rattle.bl_module_laws_faces.specs.Laws.{TreeDeclares, TreesHaveFaces}
use Rattle.bl_names.specs.Named.{along, units_of}
use Rattle.bl_names_scopes.specs.Scopes.{file_scope, opened_by}
use Rattle.bl_names_tree.specs.declared.named.Named.{Named}
use Rattle.bl_parse.specs.Programs.{Spells}
use Rattle.bl_parse_syntax.specs.Rules.{Fails as TokensFail, PassesDepth}
use Rattle.bl_parse_tree.specs.WellFormed.{RawIsWellFormed}
use Rattle.bl_parse_tree.specs.declared.item.RawItem.{RawItem}
use Rattle.bl_parse_tree.specs.declared.raw.Raw.{Raw}
use Rattle.bl_rules.proofs.Layers.{TokensAreOne, TokensThatPass, TreesAreOne, one_tree}
use Rattle.bl_tree.specs.declared.place.Place.{Place}
use Rattle.bl_tree.specs.declared.token.Token.{Token}
use Rattle.bl_module_laws.proofs.Borders.{Border, IsNamedOf}
use Rattle.bl_module_laws.proofs.Entries.{entries_stand, stand_unmarked}
use Rattle.bl_module_laws.proofs.Good.{back_from, brings_back, is_earlier, is_last, last_entry}
use Rattle.bl_module_laws.proofs.Next.{next_border}
use Rattle.bl_module_laws.proofs.Parts.{NameLaws, TypeLaws, UnitLaws}
use Rattle.bl_module_laws.proofs.Read.{AllParsed, Parsed, files_read}
use Rattle.bl_module_laws.proofs.Turns.{GoodFrom}
use Rattle.bl_module_laws.proofs.Whole.{WholePasses, names_here, near_passes, tree_passes, unmarked_named}

-- the laws of texts by themselves
pub record AloneLaws : Type 0 where
  pub tokens_one : TokensAreOne
  pub trees_one : TreesAreOne
  pub tokens_pass : TokensThatPass
  pub well_formed : (text : List ℕ) (tokens : List Token) (raw : Raw) → Lexes text tokens → PassesDepth tokens → Spells text tokens raw →
      RawIsWellFormed raw.items

-- each text by itself keeps the rules Size, Lex and Profile
abbrev pub AllTextsPass : List (List ℕ) → Type 0
AllTextsPass [] = ⊤
AllTextsPass (text ∷ texts) = TextPasses text × AllTextsPass texts

-- the units of all trees but the last have no mark
abbrev pub MarkedLast : (texts : List (List ℕ)) → AllParsed texts → Type 0
MarkedLast [] parsed = ⊤
MarkedLast (text ∷ []) parsed = ⊤
MarkedLast (text ∷ (other ∷ texts)) parsed = (list_any is_marked parsed.0.raw.items ≡ false) × MarkedLast (other ∷ texts) parsed.1

-- faces of files that are good behind others
pub record GoodBehind (count : ℕ) (before : List Face) (texts : List (List ℕ)) : Type 0 where
  pub faces : List Face
  pub good : GoodFrom count before texts faces

module _ (alone_laws : AloneLaws) where
  -- a text whose tree passes behind a start passes there
  passes_in : (behind : Behind) (last : Bool) (text : List ℕ) (parsed : Parsed text) → TextPasses text → TreePassesBehind behind last parsed.raw →
      PassesIn behind (AsLast last) text
  passes_in behind last text parsed alone tree of at also (in_bytes fails) = alone of at also fails
  passes_in behind last text parsed alone tree of at also (in_tokens tokens passes lexes fails) =
      alone_laws.tokens_pass (length text) parsed.parses.tokens of at also parsed.parses.passes
      (subst (λ them. TokensFail (length text) them of at also)
      (alone_laws.tokens_one text tokens parsed.parses.tokens lexes parsed.parses.lexes) fails)
  passes_in behind last text parsed alone tree of at also (in_tree raw passes parses fails) =
      tree of at also
      (subst (λ it. TreeFailsBehind behind last it of at also)
      (one_tree alone_laws.tokens_one alone_laws.trees_one text raw parsed.raw parses parsed.parses) fails)

  keeps : (text : List ℕ) (parsed : Parsed text) → RawIsWellFormed parsed.raw.items
  keeps text parsed =
      alone_laws.well_formed text parsed.parses.tokens parsed.raw parsed.parses.lexes parsed.parses.passes.depth parsed.parses.spells

  module _ (names : NameLaws) (types : TypeLaws) (units : UnitLaws) (declares : TreeDeclares) (have : TreesHaveFaces) (named : Named)
      (all : List RawItem) (is : IsNamedOf named all) (whole : WholePasses named all) (count : ℕ) where
    -- the face of the next file, which is good
    record NextFile (before : List Face) (last : Bool) (text : List ℕ) (raw : Raw) : Type 0 where
      face : Face
      good : IsGoodBehind before (AsLast last) text face
      adds : FaceAdds before face raw

    next_file : (before : List Face) (last : Bool) (text : List ℕ) (parsed : Parsed text) → TextPasses text → FacesStand before →
        TreePassesBehind (behind_faces before) last parsed.raw → NextFile before last text parsed.raw
    next_file before last text parsed alone stand passes =
        let found = have before parsed.raw (keeps text parsed) in record {
          face = found.0;
          good = record {
            stand = stand;
            passes = passes_in (behind_faces before) last text parsed alone passes;
            is_face = record { raw = parsed.raw; parses = parsed.parses; is = found.1 };
          };
          adds = declares before last parsed.raw found.0 stand (keeps text parsed) passes found.1;
        }

    pub all_good : (before : List Face) (texts : List (List ℕ)) (parsed : AllParsed texts) → AllTextsPass texts → MarkedLast texts parsed →
        (front : List RawItem) (offset : ℕ) → all ≡ front ++ items_behind offset (files_read texts parsed) → length before + length texts ≡ count →
        FacesStand before → Border named front (behind_faces before) → GoodBehind count before texts
    all_good before [] parsed alone marked front offset same counted stand border = record { faces = []; good = tt }
    all_good before (text ∷ []) parsed alone marked front offset same counted stand border =
        let raw : Raw = parsed.0.raw in
        let f : Place → Place = moved_place offset in
        let is_here = subst (IsNamedOf named) same is in
        let whole_here = subst (WholePasses named) same whole in
        let behind : Behind = behind_faces before in
        let items : front ++ map (placed_item f) raw.items ≡ all =
        ap (λ them. front ++ them) (sym (append-nil (map (placed_item f) raw.items))) ∙ sym same in
        let entry : entries_stand false (along units_of (opened_by behind.headings) raw.items) ≡ true =
        sym (last_entry names types named front f raw is_here behind border
        (names_here names types units named front f raw [] is_here behind border whole_here))
        ∙ ap (λ them. entries_stand false (along units_of file_scope them)) items
        ∙ whole.items.entry in
        let passes = tree_passes names types units named front f raw [] is_here behind border whole_here (back_from offset) (brings_back offset) true entry in
        let next = next_file before true text parsed.0 alone.0 stand passes in
        record {
          faces = next.face ∷ [];
          good = (subst (λ last. IsGoodBehind before (AsLast last) text next.face) (sym (is_last before count counted)) next.good, tt);
        }
    all_good before (text ∷ (other ∷ texts)) parsed alone marked front offset same counted stand border =
        let raw : Raw = parsed.0.raw in
        let f : Place → Place = moved_place offset in
        let rest : List RawItem = items_behind (offset + length text + 1) (files_read (other ∷ texts) parsed.1) in
        let is_here = subst (IsNamedOf named) same is in
        let whole_here = subst (WholePasses named) same whole in
        let behind : Behind = behind_faces before in
        let unmarked = unmarked_named (opened_by behind.headings) raw.items marked.0 in
        let entry = stand_unmarked (along units_of (opened_by behind.headings) raw.items) unmarked in
        let near = near_passes names types units named front f raw rest is_here behind border whole_here (back_from offset) (brings_back offset) false entry in
        let passes =
        tree_passes names types units named front f raw rest is_here behind border whole_here (back_from offset) (brings_back offset) false entry in
        let next = next_file before false text parsed.0 alone.0 stand passes in
        let border_next =
        next_border names types named front f raw rest is_here before border false near next.face next.adds units (back_from offset) (brings_back offset)
        unmarked in
        let size = length-append before (next.face ∷ []) in
        let further =
        all_good (before ++ next.face ∷ []) (other ∷ texts) parsed.1 alone.1 marked.1 (front ++ map (placed_item f) raw.items) (offset + length text + 1)
        (same ∙ sym (append_assoc front (map (placed_item f) raw.items) rest)) (omega (arith, size, counted)) next.adds.stand border_next in
        record {
          faces = next.face ∷ further.faces;
          good = (
            subst (λ last. IsGoodBehind before (AsLast last) text next.face) (sym (is_earlier before (length texts) count counted)) next.good,
            further.good,
          );
        }
