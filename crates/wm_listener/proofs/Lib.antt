pub mod HadAll
