-- Results of the functions that read classes.
use Rattle.std.specs.declared.convert.AsStr.{Ghosts as TextOf}
use Rattle.std.specs.declared.iter.Iterator.{Ghosts as TokensOf}
use Rattle.std.specs.Prelude.{◌≡◌, ◌≤◌, ◌<◌, false, List, [], ◌∷◌, ◌++◌, map, Option, Some, None, Result}
use Rattle.std.specs.Prelude.{MatchResult, Vec}
use Rattle.std.specs.declared.alloc.Global.{Global}
use Rattle.pc_source.specs.declared.fault.Fault.{Fault}
use Rattle.pc_source.specs.declared.place.Place.{Place}
use Rattle.pc_token.specs.declared.token.Token.{Token}
use Rattle.pc_token.specs.declared.token.TokenKind.TheVariants as kind
use Rattle.pc_token.specs.declared.token.Keyword.TheVariants as word
use Rattle.pc_tree.specs.declared.tree.Name.{Name as RustName}
use Rattle.pc_tree.specs.declared.tree.Field.{Field as RustField}
use Rattle.pc_tree.specs.declared.tree.Member.{Member as RustMember}
use Rattle.pc_tree.specs.declared.tree.ClassDef.{ClassDef as RustClassDef}
use Rattle.pc_tree.specs.Tree.{Field, Member, field_member, ClassDef, class_item, option_name_of, field_of, member_of}
use Rattle.pc_tree.specs.Tree.{class_of}
use Rattle.pc_tree.specs.Depth.{whole_ann, wholes_of_members}
use Rattle.pc_grammar.specs.Machine.{at}
use Rattle.pc_grammar.specs.Machine.States.{after_headers, Top, ClassStart, items, decorator_due, class_named, members}
use Rattle.pc_grammar.specs.Machine.States.{stuck}
use Rattle.pc_grammar.specs.Machine.Finishing.{after_class, add_item}
use Rattle.pc_grammar.specs.Machine.Lines.{members_end}
use Rattle.pc_reader.specs.declared.reader.Reader.{Reader}
use Rattle.pc_reader.specs.Reading.{Blames, IsAhead, Came, Onward, IsReady, left_in}
use Rattle.pc_parse.specs.declared.parser.Parser.{Parser}
use Rattle.pc_parse.specs.Internal.WholeTrees.{KeepsTree}

-- the class with this base
abbrev pub with_base : ClassStart → Option RustName → ClassStart
with_base c base = record c { base = option_name_of base }

-- the token ahead, if any, does not end these members
abbrev pub GoOn : {X I : Type 0} → Reader X I → ClassStart → List Member → Type 0
GoOn {X} a c ms = (t : Token X) → a.ahead ≡ Some t → members_end c ms t.kind ≡ stuck

module _ {X I : Type 0} (texts : TextOf X) (source : TokensOf I (Result (Token X) Fault)) where
  -- the tokens between the name of a class and its first member were read
  pub record GivesBase (a b : Reader X I) (base : Option RustName) : Type 0 where
    pub ready : IsReady source.can_next source.remaining b
    pub later : left_in source.remaining b ≤ left_in source.remaining a
    pub leads : (c : ClassStart) → c.base ≡ None
        → Onward texts.text source.next_gives a b (at (class_named c)) (at (members (with_base c base) []))

  -- the tokens between the name of a class and its first member were read, or the refusal is the machine's
  abbrev pub ReadsBase : Reader X I → Reader X I → Result (Option RustName) Fault → Type 0
  ReadsBase a b r = MatchResult r (λ n. GivesBase a b n)
      (λ e. Blames e (λ o. (c : ClassStart) → c.base ≡ None → Came texts.text source.next_gives a (at (class_named c))
      o))

  -- a field was read
  pub record GivesField (a b : Parser X I) (f : RustField) : Type 0 where
    pub field : Field
    pub keeps : KeepsTree field_of (λ x. whole_ann x.annotation ∷ []) a.deep b.deep f field
    pub ready : IsReady source.can_next source.remaining b.reader
    pub later : left_in source.remaining b.reader < left_in source.remaining a.reader
    pub leads : (c : ClassStart) (ms : List Member)
        → Onward texts.text source.next_gives a.reader b.reader (at (members c ms))
        (at (members c (ms ++ (field_member field ∷ []))))

  -- a field was read, or the refusal is the machine's where neither `def` nor an end of the members is ahead
  abbrev pub ReadsField : Parser X I → Parser X I → Result RustField Fault → Type 0
  ReadsField a b r = MatchResult r (λ f. GivesField a b f)
      (λ e. Blames e (λ o. (c : ClassStart) (ms : List Member) → IsAhead (kind.Keyword word.Def) a.reader.ahead ≡ false
      → GoOn a.reader c ms → Came texts.text source.next_gives a.reader (at (members c ms)) o))

  -- a member was read, after others
  pub record GivesMember (a b : Parser X I) (m : RustMember) : Type 0 where
    pub member : Member
    pub keeps : KeepsTree member_of (λ x. wholes_of_members (x ∷ [])) a.deep b.deep m member
    pub ready : IsReady source.can_next source.remaining b.reader
    pub later : left_in source.remaining b.reader < left_in source.remaining a.reader
    pub leads : (c : ClassStart) (ms : List Member)
        → Onward texts.text source.next_gives a.reader b.reader (at (members c ms))
        (at (members c (ms ++ (member ∷ []))))

  -- a member was read, or the refusal is the machine's where no end of the members is ahead
  abbrev pub ReadsMember : Parser X I → Parser X I → Result RustMember Fault → Type 0
  ReadsMember a b r = MatchResult r (λ m. GivesMember a b m)
      (λ e. Blames e (λ o. (c : ClassStart) (ms : List Member) → GoOn a.reader c ms
      → Came texts.text source.next_gives a.reader (at (members c ms)) o))

  -- the members of a class were read, and the end of its suite
  pub record GivesMembers (a b : Parser X I) (v : Vec RustMember Global) : Type 0 where
    pub all : List Member
    pub keeps : KeepsTree (λ w. map member_of w.items) wholes_of_members a.deep b.deep v all
    pub ready : IsReady source.can_next source.remaining b.reader
    pub later : left_in source.remaining b.reader ≤ left_in source.remaining a.reader
    pub leads : (c : ClassStart) → Onward texts.text source.next_gives a.reader b.reader (at (members c []))
        (at (after_class c all))

  -- the members of a class and the end of its suite were read, or the refusal is the machine's
  abbrev pub ReadsMembers : Parser X I → Parser X I → Result (Vec RustMember Global) Fault → Type 0
  ReadsMembers a b r = MatchResult r (λ v. GivesMembers a b v)
      (λ e. Blames e (λ o. (c : ClassStart) → Came texts.text source.next_gives a.reader (at (members c [])) o))

  -- members were read so far, and the token ahead does not end them
  pub record MembersSoFar (a b : Parser X I) (v : Vec RustMember Global) : Type 0 where
    pub all : List Member
    pub keeps : KeepsTree (λ w. map member_of w.items) wholes_of_members a.deep b.deep v all
    pub goes_on : (c : ClassStart) → GoOn b.reader c all
    pub leads : (c : ClassStart) → Onward texts.text source.next_gives a.reader b.reader (at (members c []))
        (at (members c all))

  -- a class was read, from after its `@`
  pub record GivesClass (a b : Parser X I) (c : RustClassDef) : Type 0 where
    pub class : ClassDef
    pub keeps : KeepsTree class_of (λ x. wholes_of_members x.members) a.deep b.deep c class
    pub ready : IsReady source.can_next source.remaining b.reader
    pub later : left_in source.remaining b.reader < left_in source.remaining a.reader
    pub leads : (first : Place) (top : Top)
        → Onward texts.text source.next_gives a.reader b.reader (at (decorator_due first top))
        (at (items after_headers (add_item top (class_item first class))))

  -- a class was read, from after its `@`, or the refusal is the machine's
  abbrev pub ReadsClass : Parser X I → Parser X I → Result RustClassDef Fault → Type 0
  ReadsClass a b r = MatchResult r (λ c. GivesClass a b c)
      (λ e. Blames e (λ o. (first : Place) (top : Top) → Came texts.text source.next_gives a.reader
      (at (decorator_due first top)) o))
