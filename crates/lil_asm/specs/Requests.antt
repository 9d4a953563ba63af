-- The words of requests.
use Rattle.std.specs.Prelude.{ℕ}
use Rattle.lil_base.specs.declared.request.Request.{Request, TheVariants.{Write, WriteString, WriteLn, WriteCard, WriteInt, WriteOct, WriteHex}}

-- how many words of the expression stack a request takes
abbrev pub request_words : Request → ℕ
request_words Write = 1
request_words WriteString = 2
request_words WriteLn = 0
request_words WriteCard = 2
request_words WriteInt = 2
request_words WriteOct = 2
request_words WriteHex = 2
