-- What each answer is over HTTP: its status, its body and its bytes.
use Rattle.std.specs.Prelude.{ℕ, Bool, true, false, ◌||◌, List, [], ◌++◌, length, codes, decimal}
use Rattle.http.specs.StatusCode.{status_text}
use Rattle.json.specs.Print.{quoted}
use Rattle.wm_http.specs.declared.answer.Method.{Method}
use Rattle.wm_http.specs.declared.answer.Method.TheVariants.{Get, Post}
use Rattle.wm_http.specs.declared.answer.RequestFault.{RequestFault}
use Rattle.wm_http.specs.declared.answer.RequestFault.TheVariants.{Head, HeadTooLarge, TransferEncoding, Length, TooLarge, LengthRequired}
use Rattle.wm_http.specs.declared.answer.Answer.{Answer}
use Rattle.wm_http.specs.declared.answer.Answer.TheVariants.{Accepted, Listing, BadCommand, SeveralCommands, BadRequest, NoRoute, WrongMethod, Refused, RefusedRead, KeeperFault, LogFull, NoMemory}

abbrev pub method_name : Method → List ℕ
method_name Get = codes "GET"
method_name Post = codes "POST"

-- the status of a request that is answered no further
abbrev pub fault_status : RequestFault → ℕ
fault_status Head = 400
fault_status HeadTooLarge = 431
fault_status TransferEncoding = 501
fault_status Length = 400
fault_status TooLarge = 413
fault_status LengthRequired = 411

-- its word
abbrev pub fault_text : RequestFault → List ℕ
fault_text Head = codes "HEAD"
fault_text HeadTooLarge = codes "HEAD TOO LARGE"
fault_text TransferEncoding = codes "TRANSFER ENCODING"
fault_text Length = codes "LENGTH"
fault_text TooLarge = codes "TOO LARGE"
fault_text LengthRequired = codes "LENGTH REQUIRED"

-- the number of the status
abbrev pub status : Answer → ℕ
status (Accepted place line) = 200
status (Listing lines) = 200
status (BadCommand line) = 400
status SeveralCommands = 400
status (BadRequest fault) = fault_status fault
status NoRoute = 404
status (WrongMethod method) = 405
status (Refused place line) = 409
status (RefusedRead line) = 409
status KeeperFault = 503
status (LogFull limit) = 503
status NoMemory = 507

-- {"place":n,"reply":"line"}
abbrev pub reply_json : ℕ → List ℕ → List ℕ
reply_json place line = codes "{\"place\":" ++ (decimal place ++ (codes ",\"reply\":" ++ (quoted line ++ codes "}")))

-- {"error":"text"}
abbrev pub error_json : List ℕ → List ℕ
error_json text = codes "{\"error\":" ++ (quoted text ++ codes "}")

-- the body
abbrev pub body : Answer → List ℕ
body (Accepted place line) = reply_json place line
body (Listing lines) = lines
body (BadCommand line) = error_json line
body SeveralCommands = error_json (codes "ONE COMMAND")
body (BadRequest fault) = error_json (fault_text fault)
body NoRoute = error_json (codes "NO ROUTE")
body (WrongMethod method) = error_json (codes "METHOD")
body (Refused place line) = reply_json place line
body (RefusedRead line) = error_json line
body KeeperFault = error_json (codes "KEEPERFAULT")
body (LogFull limit) = error_json (codes "LOGFULL " ++ decimal limit)
body NoMemory = error_json (codes "NOMEMORY")

-- the kind of the body: a listing is plain text, all else is JSON
abbrev pub content_type : Answer → List ℕ
content_type (Accepted place line) = codes "application/json"
content_type (Listing lines) = codes "text/plain"
content_type (BadCommand line) = codes "application/json"
content_type SeveralCommands = codes "application/json"
content_type (BadRequest fault) = codes "application/json"
content_type NoRoute = codes "application/json"
content_type (WrongMethod method) = codes "application/json"
content_type (Refused place line) = codes "application/json"
content_type (RefusedRead line) = codes "application/json"
content_type KeeperFault = codes "application/json"
content_type (LogFull limit) = codes "application/json"
content_type NoMemory = codes "application/json"

-- the head line that names the route's method
abbrev pub allow_line : Answer → List ℕ
allow_line (Accepted place line) = []
allow_line (Listing lines) = []
allow_line (BadCommand line) = []
allow_line SeveralCommands = []
allow_line (BadRequest fault) = []
allow_line NoRoute = []
allow_line (WrongMethod method) = codes "Allow: " ++ (method_name method ++ codes "\r\n")
allow_line (Refused place line) = []
allow_line (RefusedRead line) = []
allow_line KeeperFault = []
allow_line (LogFull limit) = []
allow_line NoMemory = []

-- whether the connection closes after the answer, whatever the request said
abbrev pub closes : Answer → Bool
closes (Accepted place line) = false
closes (Listing lines) = false
closes (BadCommand line) = false
closes SeveralCommands = false
closes (BadRequest fault) = true
closes NoRoute = false
closes (WrongMethod method) = false
closes (Refused place line) = false
closes (RefusedRead line) = false
closes KeeperFault = false
closes (LogFull limit) = false
closes NoMemory = false

-- whether it closes after the answer, where the request or the session may ask for it
abbrev pub closes_after : Answer → Bool → Bool
closes_after answer asked = asked || closes answer

-- the head line that says that the connection closes
abbrev pub close_line : Bool → List ℕ
close_line true = codes "Connection: close\r\n"
close_line false = []

-- the head of a status, a kind and a length of body, and the lines that may stand behind them, with the empty line
unfoldable pub head_text : ℕ → List ℕ → ℕ → List ℕ → List ℕ → List ℕ
head_text code kind len allow close =
    codes "HTTP/1.1 " ++ (status_text code
    ++ (codes "\r\nContent-Type: " ++ (kind
    ++ (codes "\r\nContent-Length: " ++ (decimal len
    ++ (codes "\r\n" ++ (allow
    ++ (close ++ codes "\r\n"))))))))

-- the head of an answer
abbrev pub response_head : Answer → Bool → List ℕ
response_head answer asked =
    head_text (status answer) (content_type answer) (length (body answer)) (allow_line answer) (close_line (closes_after answer asked))

-- the bytes of an answer, where the connection is asked to close or not
abbrev pub response_bytes : Answer → Bool → List ℕ
response_bytes answer asked = response_head answer asked ++ body answer
