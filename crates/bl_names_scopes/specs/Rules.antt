-- How marks behind a start, and so a program, fail the rules Duplicate, Unknown and Kind, and at which places.
use Rattle.std.specs.Prelude.{◌≡◌, ◌⊎◌, false, List, [], ◌∷◌, ◌++◌, Some, None}
use Rattle.bl_tree.specs.declared.place.Place.{Place}
use Rattle.bl_tree.specs.declared.rule.Rule.{Rule}
use Rattle.bl_tree.specs.declared.rule.Rule.TheVariants as rule
use Rattle.bl_tree.specs.Rules as rules
use Rattle.bl_parse_tree.specs.declared.item.RawItem.{RawItem}
use Rattle.bl_parse_tree.specs.declared.name.Name.{Name}
use Rattle.bl_names_scopes.specs.declared.kind.Kind.{Kind}
use Rattle.bl_names_scopes.specs.declared.kind.Wanted.{Wanted}
use Rattle.bl_names_scopes.specs.declared.scopes.Declaration.{Declaration}
use Rattle.bl_names_scopes.specs.Kinds.{suits}
use Rattle.bl_names_scopes.specs.Marks.{Mark, Marks, declares, marks_of, uses}
use Rattle.bl_names_scopes.specs.Scopes.{Scopes, after, bound, file_scope, found}

-- a mark stands where these scopes are open, among marks that begin where the scopes of the start are
pub record MarkStands (start : Scopes) (marks : Marks) (mark : Mark) (scopes : Scopes) : Type 0 where
  pub before : Marks
  pub rest : Marks
  pub there : marks ≡ before ++ (mark ∷ rest)
  pub are_open : scopes ≡ after start before

-- a use stands for a declaration: the one of its name, visible there, in the innermost scope around it that has one
pub record BindsBehind (start : Scopes) (marks : Marks) (use_of : Name) (wanted : Wanted) (declaration : Declaration) : Type 0 where
  pub scopes : Scopes
  pub stands : MarkStands start marks (uses use_of wanted) scopes
  pub is_bound : bound scopes use_of.text ≡ Some declaration

-- a use in a program stands for a declaration
abbrev pub Binds : List RawItem → Name → Wanted → Declaration → Type 0
Binds items = BindsBehind file_scope (marks_of items)

-- Duplicate: a name is declared where its scope declares it already, or a field twice in one struct; at the later, also the earlier
pub record FailsDuplicate (start : Scopes) (marks : Marks) (at : Place) (also : List Place) : Type 0 where
  pub name : Name
  pub kind : Kind
  pub scopes : Scopes
  pub stands : MarkStands start marks (declares name kind) scopes
  pub earlier : Declaration
  pub twice : found scopes.inner name.text ≡ Some earlier
  pub at_later : at ≡ name.place
  pub at_earlier : also ≡ earlier.place ∷ []

-- Unknown: a name is used that no declaration visible there has; at the use
pub record FailsUnknown (start : Scopes) (marks : Marks) (at : Place) (also : List Place) : Type 0 where
  pub name : Name
  pub wanted : Wanted
  pub scopes : Scopes
  pub stands : MarkStands start marks (uses name wanted) scopes
  pub unbound : bound scopes name.text ≡ None
  pub at_use : at ≡ name.place
  pub alone : also ≡ []

-- Kind: a name stands for another kind of thing than its place needs; at the use, also its declaration
pub record FailsKind (start : Scopes) (marks : Marks) (at : Place) (also : List Place) : Type 0 where
  pub name : Name
  pub wanted : Wanted
  pub declaration : Declaration
  pub binds : BindsBehind start marks name wanted declaration
  pub unfit : suits wanted declaration.kind ≡ false
  pub at_use : at ≡ name.place
  pub at_declaration : also ≡ declaration.place ∷ []

-- the rule fails at this place, with these further places, for marks that begin where the scopes of the start are open
abbrev pub FailsBehind : Scopes → Marks → Rule → Place → List Place → Type 0
FailsBehind start marks of at also =
    ((of ≡ rule.Duplicate) × FailsDuplicate start marks at also)
    ⊎ (((of ≡ rule.Unknown) × FailsUnknown start marks at also) ⊎ ((of ≡ rule.Kind) × FailsKind start marks at also))

-- the rule is the first of the three that fails behind the start, and these are its first places
abbrev pub FailsFirstBehind : Scopes → Marks → Rule → Place → List Place → Type 0
FailsFirstBehind start marks = rules.FailsFirst (FailsBehind start marks)

-- none of the three rules fails behind the start
abbrev pub PassesBehind : Scopes → Marks → Type 0
PassesBehind start marks = rules.Passes (FailsBehind start marks)

-- the rule fails for a program at this place, with these further places: nothing is declared before it
abbrev pub Fails : List RawItem → Rule → Place → List Place → Type 0
Fails items = FailsBehind file_scope (marks_of items)

-- the rule is the first of Duplicate, Unknown and Kind that fails, and fails first at these places
abbrev pub FailsFirst : List RawItem → Rule → Place → List Place → Type 0
FailsFirst items = rules.FailsFirst (Fails items)

-- none of Duplicate, Unknown and Kind fails
abbrev pub Passes : List RawItem → Type 0
Passes items = rules.Passes (Fails items)
