-- Of the 26 words those of the bytes' length are searched.
use Rattle.words.proofs.Lengths.{keyword_of_length, keyword_of_no_length}
use Rattle.std.proofs.Common.{◌∙◌, arith}
use Rattle.words.proofs.keywords.keyword_of.Goals as goal

pub returns-in-2 : goal.returns-in-2
returns-in-2 c = c.spelt_among.ensures ∙ keyword_of_length 2 _ c.in-2.is

pub returns-in-3 : goal.returns-in-3
returns-in-3 c = c.spelt_among-in-3.ensures ∙ keyword_of_length 3 _ c.in-3.is

pub returns-in-4 : goal.returns-in-4
returns-in-4 c = c.spelt_among-in-4.ensures ∙ keyword_of_length 4 _ c.in-4.is

pub returns-in-5 : goal.returns-in-5
returns-in-5 c = c.spelt_among-in-5.ensures ∙ keyword_of_length 5 _ c.in-5.is

pub returns-in-6 : goal.returns-in-6
returns-in-6 c = c.spelt_among-in-6.ensures ∙ keyword_of_length 6 _ c.in-6.is

pub returns-in-7 : goal.returns-in-7
returns-in-7 c = c.spelt_among-in-7.ensures ∙ keyword_of_length 7 _ c.in-7.is

pub returns-in_default : goal.returns-in_default
returns-in_default c = keyword_of_no_length _ (omega arith) (omega arith) (omega arith) (omega arith) (omega arith) (omega arith)
