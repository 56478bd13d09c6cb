-- Positions are those of bound declarations: each position leads to the declaration to which the use in its place is bound.
use Rattle.std.specs.Prelude.{◌≡◌, List, [], ◌∷◌, ◌++◌, Option, Some, ⊤}
use Rattle.bl_parse_tree.specs.declared.item.RawItem.{RawItem}
use Rattle.bl_parse_tree.specs.declared.name.Name.{Name}
use Rattle.bl_names_tree.specs.declared.named.Named.{Named}
use Rattle.bl_names_scopes.specs.declared.kind.Wanted.{Wanted}
use Rattle.bl_names_scopes.specs.declared.scopes.Declaration.{Declaration}
use Rattle.bl_names_scopes.specs.Marks.{Marks, opens, closes, declares, uses, marks_of}
use Rattle.bl_names_scopes.specs.Rules.{Binds}
use Rattle.bl_names_laws.specs.Referents.{Referents, program_leads}

-- a use of a name behind these marks, and the kind of declaration wanted there
pub record Use : Type 0 where
  pub before : Marks
  pub name : Name
  pub wanted : Wanted

-- the uses among marks that stand behind others, in order
abbrev pub uses_behind : Marks → Marks → List Use
uses_behind before [] = []
uses_behind before (opens ∷ rest) = uses_behind (before ++ (opens ∷ [])) rest
uses_behind before (closes ∷ rest) = uses_behind (before ++ (closes ∷ [])) rest
uses_behind before (declares name kind ∷ rest) = uses_behind (before ++ (declares name kind ∷ [])) rest
uses_behind before (uses name wanted ∷ rest) =
    record { before = before; name = name; wanted = wanted } ∷ uses_behind (before ++ (uses name wanted ∷ [])) rest

-- the uses of a program, in the order in which they take effect
abbrev pub uses_of : List RawItem → List Use
uses_of items = uses_behind [] (marks_of items)

-- a use is bound to a declaration, and its position leads to the thing of that name declared there
pub record LeadsToBound (items : List RawItem) (one : Use) (led : Option Name) : Type 0 where
  pub declaration : Declaration
  pub binds : Binds items one.name one.wanted declaration
  pub is_here : binds.stands.before ≡ one.before
  pub is_led : led ≡ Some (record { text = one.name.text; place = declaration.place })

-- uses and positions are equally many, and each position leads to the declaration to which its use is bound
abbrev pub EachLeads : List RawItem → List Use → Referents → Type 0
EachLeads items [] [] = ⊤
EachLeads items (one ∷ rest) (led ∷ leads) = LeadsToBound items one led × EachLeads items rest leads
EachLeads items _ _ = ⊥

-- the positions in a named tree are those of the declarations to which the uses of its raw tree are bound
abbrev pub UsesAreBound : List RawItem → Named → Type 0
UsesAreBound items named = EachLeads items (uses_of items) (program_leads named)
