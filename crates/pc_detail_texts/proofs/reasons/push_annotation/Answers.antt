use Rattle.pc_detail_texts.proofs.reasons.push_annotation.Goals as goal

pub returns-in-UnknownType : goal.returns-in-UnknownType
returns-in-UnknownType c = rw c.in-UnknownType.is c.push_named.ensures

pub returns-in-NoType : goal.returns-in-NoType
returns-in-NoType c = rw c.in-NoType.is c.push_around.ensures

pub returns-in-ReservedNoType : goal.returns-in-ReservedNoType
returns-in-ReservedNoType c = rw c.in-ReservedNoType.is c.push_around-in-ReservedNoType.ensures

pub returns-in-AnyNotImported : goal.returns-in-AnyNotImported
returns-in-AnyNotImported c = rw c.in-AnyNotImported.is c.push_text.ensures

pub returns-in-Bare : goal.returns-in-Bare
returns-in-Bare c = rw c.in-Bare.is c.push_around-in-Bare.ensures

pub returns-in-TakesTypes : goal.returns-in-TakesTypes
returns-in-TakesTypes c = rw c.in-TakesTypes.is c.push_types_taken.ensures

pub returns-in-TakesNone : goal.returns-in-TakesNone
returns-in-TakesNone c = rw c.in-TakesNone.is c.push_around-in-TakesNone.ensures

pub returns-in-KeyType : goal.returns-in-KeyType
returns-in-KeyType c = rw c.in-KeyType.is c.push_named-in-KeyType.ensures
