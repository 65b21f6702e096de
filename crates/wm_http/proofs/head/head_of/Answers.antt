use Rattle.std.proofs.Common.{rules}
use Rattle.wm_http.proofs.HeadLemmas.{limited, full, unfinished}
use Rattle.wm_http.proofs.head.head_of.Goals as goal

pub returns-in-Some : goal.returns-in-Some
returns-in-Some c =
    limited c.args.bytes.now c.front-text.result.now c.in-Some.rest.now c.parsed.result c.ended.result
    (search rules) (search rules) (search rules) (search rules)

pub returns-in-None : goal.returns-in-None
returns-in-None c =
    full c.args.bytes.now c.front-text.result.now c.parsed-in-None.result c.ended-in-None.result
    (search rules) (search rules) (search rules) (search rules) (search rules)

pub returns-in-None-2 : goal.returns-in-None-2
returns-in-None-2 c =
    unfinished c.args.bytes.now c.front-text.result.now c.parsed-in-None-2.result
    (search rules) (search rules) (search rules) (search rules)
