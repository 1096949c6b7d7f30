-- Whether the constants of a tuple have the domains of columns.
use Rattle.std.specs.Prelude.{Bool, true, false, ◌&&◌, List, [], ◌∷◌, Some, None, Option}
use Rattle.domain.specs.declared.Domain.{Domain}
use Rattle.schema.specs.Sameness.{same_domain}
use Rattle.schema.specs.declared.attributes.Attribute.{Attribute}
use Rattle.tree.specs.declared.nodes.Node.{Node}
use Rattle.lists.specs.Elements.{domain_said}

-- a domain that may be missing is this one
abbrev pub is_domain : Option Domain → Domain → Bool
is_domain None d = false
is_domain (Some own) d = same_domain own d

-- one by one, and as many
abbrev pub constants_fit : List Node → List Attribute → Bool
constants_fit [] [] = true
constants_fit [] (a ∷ own) = false
constants_fit (n ∷ nodes) [] = false
constants_fit (n ∷ nodes) (a ∷ own) = is_domain (domain_said n.what) a.domain && constants_fit nodes own
